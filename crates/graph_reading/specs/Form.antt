-- The graphs whose text is read as that graph.
use Rattle.std.specs.Prelude.{◌≡◌, ◌<◌, ◌^◌, ℕ, [], ◌∷◌, true, Some, nat_le, nat_lt}
use Rattle.std.specs.List.{All}
use Rattle.sam_model.specs.declared.program.Program.{Program}
use Rattle.graph.specs.declared.graphs.Kind.{Kind}
use Rattle.graph.specs.declared.graphs.Kind.TheVariants.{Scan, Cast, Intersect, Union, Array, Const, Fill, WriteLevel}
use Rattle.graph.specs.declared.graphs.Block.{Block}
use Rattle.graph.specs.declared.graphs.Channel.{Channel}
use Rattle.graph.specs.declared.graphs.Graph.{Graph}
use Rattle.graph_json.specs.Tables.{tensor_name}
use Rattle.graph_json.specs.Spelled.{NamesAreText, graph_text}
use Rattle.label_reading.specs.Laws.{LabelFits}
use Rattle.graph_reading.specs.Values.{are_places}
use Rattle.graph_reading.specs.Kinds.{tensor_named, level_fits, pair_fits}
use Rattle.graph_reading.specs.Graphs.{graph_of}

-- a declared tensor, the first of its name
abbrev pub IsDeclared : Program → ℕ → Type 0
IsDeclared p tensor = tensor_named p (tensor_name p tensor) ≡ Some tensor

-- the kind's numbers are in their ranges, and its tensor is declared
abbrev pub KindFits : Program → Kind → Type 0
KindFits p (Scan tensor level) = (level_fits p tensor level ≡ true) × IsDeclared p tensor
KindFits p (Array tensor) = IsDeclared p tensor
KindFits p (Cast outs) = nat_lt outs (2 ^ 32) ≡ true
KindFits p (Intersect left right) = pair_fits left right ≡ true
KindFits p (Union left right) = pair_fits left right ≡ true
KindFits p (Const value) = value < 2 ^ 64
KindFits p (Fill payloads) = nat_le payloads 8 ≡ true
KindFits p (WriteLevel level) = nat_lt level 256 ≡ true
KindFits p _ = Unit {0}

pub record BlockIsSpelled (p : Program) (b : Block) : Type 0 where
  pub kind : KindFits p b.kind
  pub ins : are_places b.ins ≡ true
  pub outs : are_places b.outs ≡ true

pub record ChannelIsSpelled (c : Channel) : Type 0 where
  pub from : are_places (c.from_block ∷ c.from_port ∷ []) ≡ true
  pub to : are_places (c.to_block ∷ c.to_port ∷ []) ≡ true
  pub label : LabelFits c.label

-- all numbers are in their ranges
pub record GraphIsSpelled (p : Program) (g : Graph) : Type 0 where
  pub blocks : All (BlockIsSpelled p) g.blocks
  pub channels : All ChannelIsSpelled g.channels

-- the text of a graph is read as that graph
abbrev pub TextsAreRead : Type 0
TextsAreRead = (p : Program) (g : Graph) → NamesAreText p → GraphIsSpelled p g → graph_of p (graph_text p g) ≡ Some g
