-- What is promised of graphs whose blocks all have labels that some rules allow.
use Rattle.std.specs.Prelude.{◌≡◌, ◌<◌, ◌≤◌, ℕ, List, [], ◌∷◌, length}
use mathlib.Core.List.{map}
use Rattle.stream_tokens.specs.declared.Token.{Token}
use Rattle.sam_model.specs.Children.{Ranked}
use Rattle.stream_model.specs.declared.labels.Tree.{Tree}
use Rattle.stream_model.specs.declared.labels.Tree.TheVariants.{Product, Across, Under, UnderReduced, UnderJoined}
use Rattle.stream_model.specs.declared.labels.Label.{Label}
use Rattle.block_core.specs.Kind.{Fits, outputs}
use Rattle.graph.specs.declared.graphs.Kind.{Kind}
use Rattle.graph.specs.declared.graphs.Graph.{Graph}
use Rattle.graph.specs.Meaning.{meaning}
use Rattle.graph.specs.Wiring.{block, channel}
use Rattle.graph.specs.WholeStreams.{whole_stream, Consistent}
use Rattle.label_rules.specs.Named.{tree_level}

-- the label of a channel
abbrev pub label_on : Graph → ℕ → Label
label_on g c = (channel g c).label

-- which labels a block of a kind may have at its inputs and outputs
abbrev pub Rules : Type 1
Rules = Kind → List Label → List Label → Type 0

-- each block of a graph has such labels
abbrev pub RulesMet : Rules → Graph → Type 0
RulesMet rules g =
    (b : ℕ) → b < length g.blocks
    → rules (block g b).kind (map (label_on g) (block g b).ins) (map (label_on g) (block g b).outs)

abbrev pub EachLabel : (Label → Type 0) → List Label → Type 0
EachLabel good [] = Unit {0}
EachLabel good (l ∷ ls) = good l × EachLabel good ls

-- where a label has its stream, and only good labels come to stand on channels
module _ (storages : List Ranked) (stream : Label → List Token) (good : Label → Type 0) where
  -- A block takes the streams of its inputs' labels, and gives those of its outputs' labels.
  pub record Keeps (k : Kind) (ins outs : List Label) : Type 0 where
    pub fits : Fits (meaning storages k) (map stream ins)
    pub gives : outputs (meaning storages k) (map stream ins) ≡ map stream outs
    pub each : EachLabel good outs

  -- wherever the rules allow the labels, and those of its inputs are good
  abbrev pub RulesSound : Rules → Type 0
  RulesSound rules = (k : Kind) (ins outs : List Label) → rules k ins outs → EachLabel good ins → Keeps k ins outs

  -- all whole inputs fit, and over each channel passes the stream of its label
  pub record LabelsHold (g : Graph) : Type 0 where
    pub consistent : Consistent storages g
    pub labels : (c : ℕ) → c < length g.channels → whole_stream storages g c ≡ stream (label_on g c)

-- ---- the labels of plain graphs

-- a product tree has a level, and no level is shared by several terms
abbrev pub IsPlain : Tree → Type 0
IsPlain (Product t l m) = 0 < l
IsPlain (Across n t d) = ⊥
IsPlain (Under t l m) = ⊥
IsPlain (UnderReduced t g d) = ⊥
IsPlain (UnderJoined n f d) = ⊥
IsPlain other = Unit {0}

-- at most eight levels
abbrev pub Shallow : Label → Type 0
Shallow l = (tree_level l.tree ≤ 8) × IsPlain l.tree
