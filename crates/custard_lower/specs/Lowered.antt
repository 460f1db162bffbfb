-- What is promised of the graph of a program.
use Rattle.std.specs.Prelude.{◌≡◌, ◌<◌, ◌^◌, ℕ, List, length}
use Rattle.sam_model.specs.declared.tensors.Entries.{Entries}
use Rattle.sam_model.specs.declared.tensors.Written.{Written}
use Rattle.sam_model.specs.declared.program.Program.{Program}
use Rattle.sam_model.specs.Denote.{result_entries}
use Rattle.sam_model.specs.Listing.{InRange, listing}
use Rattle.stream_model.specs.Labels.{result_sizes, label_stream}
use Rattle.graph.specs.declared.graphs.Graph.{Graph}
use Rattle.graph.specs.Wiring.{WellFormed, channel}
use Rattle.graph.specs.WholeStreams.{whole_stream, Consistent}
use Rattle.graph.specs.Assembly.{KindsInRange, FewPayloads}
use Rattle.graph.specs.Writers.{written_listing}
pub use Rattle.label_rules.specs.Storages.{storages_of}
use Rattle.custard_lower.specs.DraftGraph.{graph_of}
use Rattle.custard_lower.specs.Lowering.{program_draft}

-- the graph of a program
abbrev pub low : Program → Graph
low p = graph_of (program_draft p)

-- what the writers leave
abbrev pub written_of : Program → Graph → List Entries → Written
written_of p g es = written_listing (storages_of p es) g (length (result_sizes p))

-- Over a list of entries for each tensor: the graph reads what is stored, all streams fit together, over each channel passes
-- what its label says, and what the writers leave is the result with its pattern's coordinates and their numbers.
pub record Carries (p : Program) (g : Graph) (es : List Entries) : Type 0 where
  pub in_range : KindsInRange (storages_of p es) g
  pub consistent : Consistent (storages_of p es) g
  pub labels : (c : ℕ) → c < length g.channels → whole_stream (storages_of p es) g c ≡ label_stream p es (channel g c).label
  pub written_in_range : InRange (length (result_sizes p)) (written_of p g es)
  pub written_tensor : listing (written_of p g es) ≡ result_entries p es

-- a graph that computes the tensor of a program, whatever its tensors have
pub record Computes (p : Program) (g : Graph) : Type 0 where
  pub formed : WellFormed g
  pub few_payloads : FewPayloads g
  pub few_blocks : length g.blocks < 2 ^ 32
  pub few_channels : length g.channels < 2 ^ 32
  pub carries : (es : List Entries) → length es ≡ length p.tensors → Carries p g es

-- the graph of a program
pub record Lowered (p : Program) (g : Graph) : Type 0 where
  pub is_low : g ≡ low p
  pub computes : Computes p g
