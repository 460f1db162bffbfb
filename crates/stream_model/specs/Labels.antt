-- The stream that a label names.
use Rattle.std.specs.Prelude.{ℕ, zero, suc, ◌/◌, ◌%◌, Bool, true, false, cond, List, [], ◌∷◌, length, take, eqb, Some, None}
use mathlib.Core.List.{map}
use Rattle.sam_model.specs.declared.tensors.Entries.{Entries}
use Rattle.sam_model.specs.declared.program.Program.{Program}
use Rattle.sam_model.specs.Lists.{items_at}
use Rattle.sam_model.specs.Tensors.{value_at, rank_of}
use Rattle.sam_model.specs.Denote.{Loop}
use Rattle.stream_tokens.specs.declared.Token.{Token}
use Rattle.stream_tokens.specs.Nest.{Leaf, nmap, Fiber, stream}
use Rattle.stream_tokens.specs.Shapes.{on_tokens}
use Rattle.stream_model.specs.declared.labels.Side.{Side}
use Rattle.stream_model.specs.declared.labels.Tree.{Tree}
use Rattle.stream_model.specs.declared.labels.Tree.TheVariants.{Root, Product, Reduced, Joined, Beside, Across, Under, UnderReduced, UnderJoined}
use Rattle.stream_model.specs.declared.labels.Attr.{Attr}
use Rattle.stream_model.specs.declared.labels.Attr.TheVariants.{Coordinate, Rank, FactorValue, Partial, Whole, Value, Present, SideValue, Literal}
use Rattle.stream_model.specs.declared.labels.Label.{Label}
use Rattle.stream_model.specs.Grow.{paths, path_fibers}
use Rattle.stream_model.specs.Terms.{TermData, Summand, restricted, access_at, partial_product, whole_product, summands, summand_at, no_term}
use Rattle.stream_model.specs.Trees.{in_product, in_whole, in_pruned, value_reduced, reduced_sizes}
use Rattle.stream_model.specs.Joins.{Part, join_upto, side_part, in_beside}
use Rattle.stream_model.specs.Fused.{shared_levels, in_across, in_under, in_under_reduced, in_under_joined}

-- A tree and what can be told of its prefixes: the test and the sizes that it grows by, its depth, the term that its
-- factors are of and which prefixes that term has, and the values of the tree and of the sides that it joins.
pub record Shape : Type 0 where
  pub ok : List ℕ → Bool
  pub sizes : List ℕ
  pub depth : ℕ
  pub has : List ℕ → Bool
  pub term : TermData
  pub value : List ℕ → Leaf
  pub sides : Side → Part

abbrev pub no_part : Part
no_part = record { has = λ _. false; value = λ _. None }

-- ---- the shape of each tree

-- whether bit f of a number is set, for each f below n
abbrev pub bits : ℕ → ℕ → List Bool
bits zero mask = []
bits (suc n) mask = eqb (mask % 2) 1 ∷ bits n (mask / 2)

abbrev pub loop_sizes : List Loop → List ℕ
loop_sizes loops = map (λ l. l.0) loops

abbrev pub root_shape : Shape
root_shape = record { ok = λ _. true; sizes = []; depth = 0; has = λ _. true; term = no_term; value = λ _. None; sides = λ _. no_part }

abbrev pub product_shape : TermData → ℕ → List Bool → Shape
product_shape t level mask = record {
  ok = in_product t level mask;
  sizes = loop_sizes t.loops;
  depth = level;
  has = λ _. true;
  term = t;
  value = λ _. None;
  sides = λ _. no_part;
}

abbrev pub reduced_shape : TermData → ℕ → ℕ → ℕ → Shape
reduced_shape t gone prune depth = record {
  ok = in_pruned t gone prune;
  sizes = reduced_sizes t gone;
  depth = depth;
  has = λ _. true;
  term = t;
  value = value_reduced t gone;
  sides = λ _. no_part;
}

-- the sizes of the result's levels
abbrev pub result_sizes : Program → List ℕ
result_sizes p = items_at p.result.dims p.result.order

abbrev pub joined_shape : List ℕ → List Summand → ℕ → ℕ → Shape
joined_shape sizes ss last depth = record {
  ok = (join_upto ss last).has;
  sizes = sizes;
  depth = depth;
  has = λ _. true;
  term = no_term;
  value = (join_upto ss last).value;
  sides = side_part ss last;
}

abbrev pub beside_shape : List ℕ → List Summand → ℕ → Side → ℕ → Shape
beside_shape sizes ss last side depth = record {
  ok = in_beside ss last side depth;
  sizes = sizes;
  depth = depth;
  has = λ _. true;
  term = no_term;
  value = (side_part ss last side).value;
  sides = side_part ss last;
}

-- the terms' trees beneath shared levels, of which there are h; across them a term lacks some prefixes
abbrev pub across_shape : List Summand → ℕ → TermData → ℕ → Shape
across_shape ss upto t depth = record {
  ok = in_across ss upto depth;
  sizes = loop_sizes t.loops;
  depth = depth;
  has = in_whole t;
  term = t;
  value = λ _. None;
  sides = λ _. no_part;
}

abbrev pub under_shape : ℕ → List Summand → TermData → ℕ → List Bool → Shape
under_shape h ss t level mask = record {
  ok = in_under h ss t level mask;
  sizes = loop_sizes t.loops;
  depth = level;
  has = λ _. true;
  term = t;
  value = λ _. None;
  sides = λ _. no_part;
}

abbrev pub under_reduced_shape : ℕ → List Summand → TermData → ℕ → ℕ → Shape
under_reduced_shape h ss t gone depth = record {
  ok = in_under_reduced h ss t gone;
  sizes = reduced_sizes t gone;
  depth = depth;
  has = λ _. true;
  term = t;
  value = value_reduced t gone;
  sides = λ _. no_part;
}

abbrev pub under_joined_shape : List ℕ → List Summand → ℕ → ℕ → ℕ → Shape
under_joined_shape sizes ss last prune depth = record {
  ok = in_under_joined sizes ss last prune;
  sizes = sizes;
  depth = depth;
  has = λ _. true;
  term = no_term;
  value = (join_upto ss last).value;
  sides = λ _. no_part;
}

abbrev pub term_at : Program → List Entries → ℕ → TermData
term_at p es n = (summand_at (summands p es) n).term

abbrev pub shape_of : Program → List Entries → Tree → Shape
shape_of p es Root = root_shape
shape_of p es (Product term level mask) = let t = term_at p es term in product_shape t level (bits (length t.accesses) mask)
shape_of p es (Reduced term gone prune depth) = reduced_shape (term_at p es term) gone prune depth
shape_of p es (Joined last depth) = joined_shape (result_sizes p) (summands p es) last depth
shape_of p es (Beside last side depth) = beside_shape (result_sizes p) (summands p es) last side depth
shape_of p es (Across upto term depth) = across_shape (summands p es) upto (term_at p es term) depth
shape_of p es (Under term level mask) =
    let t = term_at p es term in under_shape (shared_levels p) (summands p es) t level (bits (length t.accesses) mask)
shape_of p es (UnderReduced term gone depth) = under_reduced_shape (shared_levels p) (summands p es) (term_at p es term) gone depth
shape_of p es (UnderJoined last prune depth) = under_joined_shape (result_sizes p) (summands p es) last prune depth

-- ---- what is told of a prefix

abbrev pub last : List ℕ → ℕ
last [] = 0
last (c ∷ []) = c
last (c ∷ d ∷ p) = last (d ∷ p)

-- where a test holds, and nothing elsewhere
abbrev pub only_where : (List ℕ → Bool) → (List ℕ → Leaf) → List ℕ → Leaf
only_where has x p = cond (has p) (x p) None

abbrev pub token : Shape → Attr → List ℕ → Leaf
token s Coordinate p = Some (last p)
token s (Rank f) p = only_where s.has (λ q. let a = access_at s.term.accesses f in Some (rank_of a.tensor (restricted a q))) p
token s (FactorValue f) p = only_where s.has (λ q. let a = access_at s.term.accesses f in Some (value_at a.tensor (restricted a q))) p
token s (Partial k) p = only_where s.has (λ q. Some (partial_product (take k s.term.accesses) q)) p
token s Whole p = only_where s.has (λ q. Some (whole_product s.term q)) p
token s Value p = s.value p
token s (Present side) p = cond ((s.sides side).has p) (Some 1) None
token s (SideValue side) p = (s.sides side).value p
token s (Literal n) p = only_where s.has (λ _. Some n) p

-- the stream of the tree of a shape, and the same as fibers
abbrev pub stream_at : Shape → Attr → List Token
stream_at s a = stream s.depth (nmap {A = List ℕ} {B = Leaf} s.depth (token s a) (paths s.ok s.sizes s.depth))

abbrev pub fibers_at : Shape → Attr → List (Fiber Leaf)
fibers_at s a = on_tokens (token s a) (path_fibers s.ok s.sizes s.depth)

-- the stream of a label, for a program over these entries
abbrev pub label_stream : Program → List Entries → Label → List Token
label_stream p es l = stream_at (shape_of p es l.tree) l.attr
