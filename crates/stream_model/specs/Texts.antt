-- Labels as text.
use Rattle.std.specs.Prelude.{ℕ, List, [], ◌∷◌, ◌++◌, codes, decimal}
use Rattle.stream_model.specs.declared.labels.Side.{Side}
use Rattle.stream_model.specs.declared.labels.Side.TheVariants.{Left, Right}
use Rattle.stream_model.specs.declared.labels.Tree.{Tree}
use Rattle.stream_model.specs.declared.labels.Tree.TheVariants.{Root, Product, Reduced, Joined, Beside, Across, Under, UnderReduced, UnderJoined}
use Rattle.stream_model.specs.declared.labels.Attr.{Attr}
use Rattle.stream_model.specs.declared.labels.Attr.TheVariants.{Coordinate, Rank, FactorValue, Partial, Whole, Value, Present, SideValue, Literal}
use Rattle.stream_model.specs.declared.labels.Label.{Label}

abbrev pub side_text : Side → List ℕ
side_text Left = codes "left"
side_text Right = codes "right"

-- numbers, each after a space
abbrev pub spaced : List ℕ → List ℕ
spaced [] = []
spaced (n ∷ ns) = 32 ∷ (decimal n ++ spaced ns)

abbrev pub tree_text : Tree → List ℕ
tree_text Root = codes "root"
tree_text (Product term level mask) = codes "product" ++ spaced (term ∷ level ∷ mask ∷ [])
tree_text (Reduced term gone prune depth) = codes "reduced" ++ spaced (term ∷ gone ∷ prune ∷ depth ∷ [])
tree_text (Joined last depth) = codes "joined" ++ spaced (last ∷ depth ∷ [])
tree_text (Beside last side depth) = codes "beside" ++ (spaced (last ∷ []) ++ (32 ∷ (side_text side ++ spaced (depth ∷ []))))
tree_text (Across upto term depth) = codes "across" ++ spaced (upto ∷ term ∷ depth ∷ [])
tree_text (Under term level mask) = codes "under" ++ spaced (term ∷ level ∷ mask ∷ [])
tree_text (UnderReduced term gone depth) = codes "underreduced" ++ spaced (term ∷ gone ∷ depth ∷ [])
tree_text (UnderJoined last prune depth) = codes "underjoined" ++ spaced (last ∷ prune ∷ depth ∷ [])

abbrev pub attr_text : Attr → List ℕ
attr_text Coordinate = codes "coordinate"
attr_text (Rank f) = codes "rank" ++ spaced (f ∷ [])
attr_text (FactorValue f) = codes "factor" ++ spaced (f ∷ [])
attr_text (Partial k) = codes "partial" ++ spaced (k ∷ [])
attr_text Whole = codes "whole"
attr_text Value = codes "value"
attr_text (Present side) = codes "present " ++ side_text side
attr_text (SideValue side) = codes "value " ++ side_text side
attr_text (Literal n) = codes "literal" ++ spaced (n ∷ [])

-- the words of the tree, then those of the attribute, which the root has none of
abbrev pub told_text : Tree → Attr → List ℕ
told_text Root attr = codes "root"
told_text (Product term level mask) attr = tree_text (Product term level mask) ++ (32 ∷ attr_text attr)
told_text (Reduced term gone prune depth) attr = tree_text (Reduced term gone prune depth) ++ (32 ∷ attr_text attr)
told_text (Joined last depth) attr = tree_text (Joined last depth) ++ (32 ∷ attr_text attr)
told_text (Beside last side depth) attr = tree_text (Beside last side depth) ++ (32 ∷ attr_text attr)
told_text (Across upto term depth) attr = tree_text (Across upto term depth) ++ (32 ∷ attr_text attr)
told_text (Under term level mask) attr = tree_text (Under term level mask) ++ (32 ∷ attr_text attr)
told_text (UnderReduced term gone depth) attr = tree_text (UnderReduced term gone depth) ++ (32 ∷ attr_text attr)
told_text (UnderJoined last prune depth) attr = tree_text (UnderJoined last prune depth) ++ (32 ∷ attr_text attr)

abbrev pub text_of_label : Label → List ℕ
text_of_label l = told_text l.tree l.attr
