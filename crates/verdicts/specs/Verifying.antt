-- The verdict on a graph that a file spells, as a part.
use Rattle.std.specs.Prelude.{◌≡◌, ℕ, List, codes, Option, Some, None, Result, Ok, Err}
use Rattle.sam_base.specs.declared.faults.Fault.{Fault}
use Rattle.sam_base.specs.declared.faults.Fault.TheVariants as fault
use Rattle.sam_model.specs.declared.program.Program.{Program}
use Rattle.graph.specs.declared.graphs.Graph.{Graph}
use Rattle.graph_reading.specs.Graphs.{graph_of}
use Rattle.graph_check.specs.declared.verdict.Verdict.{Verdict}
use Rattle.graph_check.specs.declared.verdict.Verdict.TheVariants.{Yes, No}
use Rattle.graph_check.specs.Laws.{Fulfils}
use Rattle.graph_check.specs.Verdicts.{IsVerdict}
use Rattle.parts.specs.Parts.{Part, gives, followed, reads}

-- a graph, or that a text spells none
abbrev pub graph_or_refused : Option Graph → Result Graph Fault
graph_or_refused None = Err fault.Graph
graph_or_refused (Some g) = Ok g

-- the graph that a file spells over a program's tensors; none are the bytes of a file that is too long
abbrev pub graph_read : Program → Option (List ℕ) → Result Graph Fault
graph_read p None = Err fault.Graph
graph_read p (Some text) = graph_or_refused (graph_of p text)

abbrev pub graph_part : List ℕ → Program → Part Graph
graph_part name p = followed (reads name) (λ text. gives (graph_read p text))

-- what is answered by a verdict
abbrev pub verdict_answer : Verdict → Result (List ℕ) Fault
verdict_answer Yes = Ok (codes "verified\n")
verdict_answer (No rule at) = Err (fault.NotVerified rule at)

-- a graph meets all rules, and computes the program's tensor
pub record IsVerified (p : Program) (g : Graph) : Type 0 where
  pub exact : IsVerdict p g Yes
  pub fulfils : Fulfils p g

-- An answer on a graph: its verdict is exact, and a graph that is verified computes the program's tensor.
pub record AnsweredOf (p : Program) (g : Graph) (answer : Result (List ℕ) Fault) : Type 0 where
  pub verdict : Verdict
  pub exact : IsVerdict p g verdict
  pub fulfils : verdict ≡ Yes → Fulfils p g
  pub answered : answer ≡ verdict_answer verdict

abbrev pub verdict_part : Program → Graph → Part (List ℕ)
verdict_part p g told answer = AnsweredOf p g answer

-- the graph of this name, and then the answer on it
abbrev pub verification_part : List ℕ → Program → Part (List ℕ)
verification_part name p = followed (graph_part name p) (verdict_part p)
