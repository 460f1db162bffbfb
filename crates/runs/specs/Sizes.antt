-- How much room a run of a graph that computes a program's tensor needs, and what is answered of that.
use Rattle.std.specs.Prelude.{◌≡◌, ◌++◌, ℕ, List, codes, decimal, Result, Ok, Err, length}
use Rattle.sam_base.specs.declared.TheConstants.{CAPACITY_MOST}
use Rattle.sam_base.specs.declared.faults.Fault.{Fault}
use Rattle.sam_base.specs.declared.faults.Fault.TheVariants.{Stalled}
use Rattle.sam_base.specs.declared.faults.Waiting.{Waiting}
use Rattle.sam_base.specs.Texts.{text_line, waiting_lines}
use Rattle.sam_model.specs.declared.tensors.Entries.{Entries}
use Rattle.sam_model.specs.declared.program.Program.{Program}
use Rattle.graph.specs.declared.graphs.Graph.{Graph}
use Rattle.stepper.specs.NetOf.{net_of}
use Rattle.sam_sizing.specs.declared.least.Least.{Least}
use Rattle.sam_sizing.specs.declared.least.Least.TheVariants.{Found, Above}
use Rattle.sam_sizing.specs.Least.{IsLeast}
use Rattle.custard_lower.specs.Lowered.{Computes, storages_of}
use Rattle.parts.specs.Parts.{Part}

-- the least capacity, and the blocks that wait with one less, a line each
abbrev pub size_text : ℕ → List Waiting → List ℕ
size_text capacity below = text_line (codes "capacity " ++ decimal capacity) ++ waiting_lines (codes "block ") below

-- where the largest capacity is too small, the blocks that wait under it
abbrev pub size_answer : Least → Result (List ℕ) Fault
size_answer (Found capacity below) = Ok (size_text capacity below)
size_answer (Above list) = Err (Stalled list)

-- The least capacity for such a graph over the program's entries.
pub record SizesTo (p : Program) (g : Graph) (es : List Entries) (answer : Result (List ℕ) Fault) : Type 0 where
  pub computes : Computes p g
  pub each : length es ≡ length p.tensors
  pub least : Least
  pub is_least : IsLeast (net_of (storages_of p es) g) CAPACITY_MOST least
  pub answered : answer ≡ size_answer least

abbrev pub size_part : Program → Graph → List Entries → Part (List ℕ)
size_part p g es told answer = SizesTo p g es answer
