-- Labels, told apart by numbers, and lists of labels that stand at ports.
use Rattle.std.specs.Prelude.{◌≡◌, ◌⊎◌, ℕ, Bool, true, false, ◌&&◌, List, [], ◌∷◌, get_or}
use Rattle.std.specs.List.{list_any}
use mathlib.Core.List.{map}
use Rattle.sam_model.specs.Lists.{same_list}
use Rattle.stream_model.specs.declared.labels.Side.{Side}
use Rattle.stream_model.specs.declared.labels.Side.TheVariants.{Left, Right}
use Rattle.stream_model.specs.declared.labels.Tree.{Tree}
use Rattle.stream_model.specs.declared.labels.Tree.TheVariants.{Root, Product, Reduced, Joined, Beside, Across, Under, UnderReduced, UnderJoined}
use Rattle.stream_model.specs.declared.labels.Attr.{Attr}
use Rattle.stream_model.specs.declared.labels.Attr.TheVariants.{Coordinate, Rank, FactorValue, Partial, Whole, Value, Present, SideValue, Literal}
use Rattle.stream_model.specs.declared.labels.Label.{Label}

abbrev pub tree_label : Tree → Attr → Label
tree_label tree attr = record { tree = tree; attr = attr }

-- the label of the root, which also stands for a label that isn't there
abbrev pub no_label : Label
no_label = record { tree = Root; attr = Literal 0 }

-- ---- numbers that tell labels apart

abbrev pub side_code : Side → ℕ
side_code Left = 0
side_code Right = 1

abbrev pub tree_code : Tree → List ℕ
tree_code Root = 0 ∷ []
tree_code (Product t l m) = 1 ∷ t ∷ l ∷ m ∷ []
tree_code (Reduced t g f d) = 2 ∷ t ∷ g ∷ f ∷ d ∷ []
tree_code (Joined n d) = 3 ∷ n ∷ d ∷ []
tree_code (Beside n s d) = 4 ∷ n ∷ side_code s ∷ d ∷ []
tree_code (Across n t d) = 5 ∷ n ∷ t ∷ d ∷ []
tree_code (Under t l m) = 6 ∷ t ∷ l ∷ m ∷ []
tree_code (UnderReduced t g d) = 7 ∷ t ∷ g ∷ d ∷ []
tree_code (UnderJoined n f d) = 8 ∷ n ∷ f ∷ d ∷ []

abbrev pub attr_code : Attr → List ℕ
attr_code Coordinate = 0 ∷ []
attr_code (Rank f) = 1 ∷ f ∷ []
attr_code (FactorValue f) = 2 ∷ f ∷ []
attr_code (Partial k) = 3 ∷ k ∷ []
attr_code Whole = 4 ∷ []
attr_code Value = 5 ∷ []
attr_code (Present s) = 6 ∷ side_code s ∷ []
attr_code (SideValue s) = 7 ∷ side_code s ∷ []
attr_code (Literal n) = 8 ∷ n ∷ []

abbrev pub same_label : Label → Label → Bool
same_label l k = same_list (tree_code l.tree) (tree_code k.tree) && same_list (attr_code l.attr) (attr_code k.attr)

abbrev pub same_labels : List Label → List Label → Bool
same_labels [] [] = true
same_labels [] (k ∷ ks) = false
same_labels (l ∷ ls) [] = false
same_labels (l ∷ ls) (k ∷ ks) = same_label l k && same_labels ls ks

-- ---- the labels that may stand at ports

abbrev pub IsOneOf : Label → List Label → Type 0
IsOneOf l [] = ⊥
IsOneOf l (k ∷ ks) = (l ≡ k) ⊎ IsOneOf l ks

-- each port has one of the labels that it may have
abbrev pub PortsAllow : List (List Label) → List Label → Type 0
PortsAllow [] [] = Unit {0}
PortsAllow [] (l ∷ ls) = ⊥
PortsAllow (c ∷ cs) [] = ⊥
PortsAllow (c ∷ cs) (l ∷ ls) = IsOneOf l c × PortsAllow cs ls

-- the same as a test
abbrev pub ports_allow : List (List Label) → List Label → Bool
ports_allow [] [] = true
ports_allow [] (l ∷ ls) = false
ports_allow (c ∷ cs) [] = false
ports_allow (c ∷ cs) (l ∷ ls) = list_any (same_label l) c && ports_allow cs ls

-- ports with one label each
abbrev pub just_these : List Label → List (List Label)
just_these ls = map (λ l. l ∷ []) ls

abbrev pub port_label : List Label → ℕ → Label
port_label ls n = get_or ls n no_label
