-- The text of each label is read as that label.
use Rattle.std.specs.Prelude.{◌≡◌, ◌<◌, ◌^◌, ℕ, List, Some}
use Rattle.stream_model.specs.declared.labels.Tree.{Tree}
use Rattle.stream_model.specs.declared.labels.Tree.TheVariants.{Root, Product, Reduced, Joined, Beside, Across, Under, UnderReduced, UnderJoined}
use Rattle.stream_model.specs.declared.labels.Attr.{Attr}
use Rattle.stream_model.specs.declared.labels.Attr.TheVariants.{Rank, FactorValue, Partial, Literal}
use Rattle.stream_model.specs.declared.labels.Label.{Label}
use Rattle.stream_model.specs.Texts.{text_of_label}
use Rattle.label_reading.specs.Words.{label_in}

-- the numbers of a tree are those of a byte
abbrev pub TreeFits : Tree → Type 0
TreeFits Root = Unit {0}
TreeFits (Product term level mask) = (term < 256) × (level < 256) × (mask < 256)
TreeFits (Reduced term gone prune depth) = (term < 256) × (gone < 256) × (prune < 256) × (depth < 256)
TreeFits (Joined last depth) = (last < 256) × (depth < 256)
TreeFits (Beside last side depth) = (last < 256) × (depth < 256)
TreeFits (Across upto term depth) = (upto < 256) × (term < 256) × (depth < 256)
TreeFits (Under term level mask) = (term < 256) × (level < 256) × (mask < 256)
TreeFits (UnderReduced term gone depth) = (term < 256) × (gone < 256) × (depth < 256)
TreeFits (UnderJoined last prune depth) = (last < 256) × (prune < 256) × (depth < 256)

abbrev pub AttrFits : Attr → Type 0
AttrFits (Rank f) = f < 256
AttrFits (FactorValue f) = f < 256
AttrFits (Partial k) = k < 256
AttrFits (Literal n) = n < 2 ^ 64
AttrFits _ = Unit {0}

-- The numbers are in the ranges of their types. The text of the root tells no attribute; it stands for the number 0.
pub record LabelFits (l : Label) : Type 0 where
  pub tree : TreeFits l.tree
  pub attr : AttrFits l.attr
  pub root : l.tree ≡ Root → l.attr ≡ Literal 0

abbrev pub LabelsAreRead : Type 0
LabelsAreRead = (l : Label) → LabelFits l → label_in (text_of_label l) ≡ Some l

abbrev pub LabelsAreSpelled : Type 0
LabelsAreSpelled = (text : List ℕ) (l : Label) → label_in text ≡ Some l → text_of_label l ≡ text
