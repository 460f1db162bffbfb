-- What holds of graphs that meet the rules, and of the graph of every accepted program.
use Rattle.std.specs.Prelude.{◌≡◌, true, None, List, length}
use Rattle.sam_model.specs.declared.tensors.Entries.{Entries}
use Rattle.sam_model.specs.declared.program.Program.{Program}
use Rattle.sam_model.specs.Program.{accepted}
use Rattle.graph.specs.declared.graphs.Graph.{Graph}
use Rattle.graph.specs.Wiring.{WellFormed}
use Rattle.custard_lower.specs.Lowered.{Carries, low}
use Rattle.graph_check.specs.Faults.{writers_fault, labels_fault}

-- A graph is well formed, and over any entries of the program's tensors its streams fit together, over each channel passes what
-- its label says, and what the writers leave is the program's tensor.
pub record Fulfils (p : Program) (g : Graph) : Type 0 where
  pub formed : WellFormed g
  pub carries : (es : List Entries) → length es ≡ length p.tensors → Carries p g es

-- a well formed graph that meets the rules on writers and on labels does so
abbrev pub RulesSuffice : Type 0
RulesSuffice =
    (p : Program) (g : Graph) → accepted p ≡ true → WellFormed g → writers_fault p g ≡ None → labels_fault p g ≡ None
    → Fulfils p g

-- and the graph of every accepted program does meet them
abbrev pub LoweredGraphMeets : Type 0
LoweredGraphMeets =
    (p : Program) → accepted p ≡ true → (writers_fault p (low p) ≡ None) × (labels_fault p (low p) ≡ None)
