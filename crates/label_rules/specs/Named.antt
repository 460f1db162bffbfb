-- What the labels of a block name: the rule of its kind is read at these.
use Rattle.std.specs.Prelude.{ℕ, suc, List, [], ◌∷◌, take, drop}
use mathlib.Core.List.{map}
use Rattle.stream_model.specs.declared.labels.Side.{Side}
use Rattle.stream_model.specs.declared.labels.Side.TheVariants.{Left}
use Rattle.stream_model.specs.declared.labels.Tree.{Tree}
use Rattle.stream_model.specs.declared.labels.Tree.TheVariants.{Root, Product, Reduced, Joined, Beside, Across, Under, UnderReduced, UnderJoined}
use Rattle.stream_model.specs.declared.labels.Attr.{Attr}
use Rattle.stream_model.specs.declared.labels.Attr.TheVariants.{Rank, FactorValue, Partial, Literal}
use Rattle.stream_model.specs.declared.labels.Label.{Label}
use Rattle.label_rules.specs.Labels.{no_label, port_label}

-- ---- what a tree and an attribute name; 0 where it is nothing of the kind

-- its term, or the last one of several
abbrev pub tree_term : Tree → ℕ
tree_term Root = 0
tree_term (Product t l m) = t
tree_term (Reduced t g f d) = t
tree_term (Joined n d) = n
tree_term (Beside n s d) = n
tree_term (Across n t d) = t
tree_term (Under t l m) = t
tree_term (UnderReduced t g d) = t
tree_term (UnderJoined n f d) = n

-- its depth
abbrev pub tree_level : Tree → ℕ
tree_level Root = 0
tree_level (Product t l m) = l
tree_level (Reduced t g f d) = d
tree_level (Joined n d) = d
tree_level (Beside n s d) = d
tree_level (Across n t d) = d
tree_level (Under t l m) = l
tree_level (UnderReduced t g d) = d
tree_level (UnderJoined n f d) = d

abbrev pub tree_gone : Tree → ℕ
tree_gone (Reduced t g f d) = g
tree_gone other = 0

abbrev pub tree_mask : Tree → ℕ
tree_mask (Product t l m) = m
tree_mask other = 0

abbrev pub tree_side : Tree → Side
tree_side (Beside n s d) = s
tree_side other = Left

abbrev pub attr_number : Attr → ℕ
attr_number (Rank f) = f
attr_number (FactorValue f) = f
attr_number (Partial k) = k
attr_number (Literal n) = n
attr_number other = 0

abbrev pub attr_numbers : List Label → List ℕ
attr_numbers ls = map (λ l. attr_number l.attr) ls

abbrev pub last_label : List Label → Label
last_label [] = no_label
last_label (l ∷ []) = l
last_label (l ∷ k ∷ ls) = last_label (k ∷ ls)

-- ---- what all labels of a block name

-- A term, a level and a number of loops that are gone, of the first output; a factor, of the last output; and the masks and
-- the factors of the two sides that are merged.
pub record Named : Type 0 where
  pub term : ℕ
  pub level : ℕ
  pub gone : ℕ
  pub factor : ℕ
  pub left : ℕ
  pub right : ℕ
  pub these : List ℕ
  pub those : List ℕ

-- where the left side of a merge has l payloads
abbrev pub named : ℕ → List Label → List Label → Named
named l ins outs = record {
  term = tree_term (port_label outs 0).tree;
  level = tree_level (port_label outs 0).tree;
  gone = tree_gone (port_label outs 0).tree;
  factor = attr_number (last_label outs).attr;
  left = tree_mask (port_label ins 0).tree;
  right = tree_mask (port_label ins (suc l)).tree;
  these = attr_numbers (take l (drop 1 ins));
  those = attr_numbers (drop 1 (drop l (drop 1 ins)));
}
