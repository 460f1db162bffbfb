-- What holds of fused graphs, and of graphs whose labels their rules allow.
use Rattle.std.specs.Prelude.{◌≡◌, true, List, length}
use Rattle.sam_model.specs.declared.tensors.Entries.{Entries}
use Rattle.sam_model.specs.declared.program.Program.{Program}
use Rattle.sam_model.specs.Program.{accepted}
use Rattle.stream_model.specs.Labels.{label_stream}
use Rattle.graph.specs.declared.graphs.Graph.{Graph}
use Rattle.graph.specs.Wiring.{WellFormed}
use Rattle.label_rules.specs.Storages.{storages_of}
use Rattle.label_rules.specs.Holding.{RulesMet, LabelsHold}
use Rattle.custard_lower.specs.Lowered.{Computes}
use Rattle.custard_fuse.specs.Fusing.{is_fused, fus}
use Rattle.custard_fuse.specs.FusedRules.{FusedAllowed, Deep}

-- Where the terms of a program are fused and the labels at every block of a well formed graph are allowed, the graph is consistent and
-- over each channel passes the stream of its label.
abbrev pub FusedRulesHold : Type 0
FusedRulesHold =
    (p : Program) (es : List Entries) (g : Graph)
    → accepted p ≡ true → is_fused p ≡ true → length es ≡ length p.tensors → WellFormed g → RulesMet (FusedAllowed p) g
    → LabelsHold (storages_of p es) (label_stream p es) Deep g

-- the fused graph of a program: its labels are allowed, and it computes the tensor that the plain graph does
pub record FusedCarries (p : Program) : Type 0 where
  pub allowed : RulesMet (FusedAllowed p) (fus p)
  pub computes : Computes p (fus p)

-- that of every accepted program whose terms are fused
abbrev pub FusedGraphCarries : Type 0
FusedGraphCarries = (p : Program) → accepted p ≡ true → is_fused p ≡ true → FusedCarries p
