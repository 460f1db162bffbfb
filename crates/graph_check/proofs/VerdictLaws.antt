-- What a verdict by the rules says of the graph, and what it is of the graph of an accepted program.
use Rattle.std.specs.Prelude.{◌≡◌, ℕ, Option, Some, None, true, refl}
use Rattle.std.proofs.Common.{sym, ◌∙◌, ap}
use Rattle.sam_base.specs.declared.faults.Rule.TheVariants.{Ports, Stray, Cycle, Writers, Labels}
use Rattle.sam_model.specs.declared.program.Program.{Program}
use Rattle.sam_model.specs.Program.{accepted}
use Rattle.graph.specs.declared.graphs.Graph.{Graph}
use Rattle.graph.specs.Wiring.{WellFormed}
use Rattle.custard_lower.specs.Lowered.{low}
use Rattle.graph_check.specs.declared.verdict.Verdict.{Verdict}
use Rattle.graph_check.specs.declared.verdict.Verdict.TheVariants.{Yes, No}
use Rattle.graph_check.specs.Faults.{writers_fault, labels_fault}
use Rattle.graph_check.specs.Laws.{Fulfils}
use Rattle.graph_check.specs.Verdicts.{IsFormedVerdict}
use Rattle.graph_check.proofs.Suffices.{suffices}
use Rattle.graph_check.proofs.LowerMeets.{lowered-meets}

none-is-no-place : (n : ℕ) → ◌≡◌ {A = Option ℕ} None (Some n) → ⊥
none-is-no-place n e = cc

-- a well formed graph of which it is yes computes the tensor
pub yes-fulfils : (p : Program) (g : Graph) → accepted p ≡ true → IsFormedVerdict p g Yes → WellFormed g → Fulfils p g
yes-fulfils p g ok x w = suffices p g ok w x.0 x.1

-- it is yes of the graph of an accepted program
pub lowered-is-yes : (p : Program) (g : Graph) (v : Verdict) → accepted p ≡ true → IsFormedVerdict p g v → g ≡ low p → v ≡ Yes
lowered-is-yes p g Yes ok x e = refl
lowered-is-yes p g (No Writers at) ok x e =
    absurd (none-is-no-place at (sym (ap (writers_fault p) e ∙ (lowered-meets p ok).0) ∙ x))
lowered-is-yes p g (No Labels at) ok x e =
    absurd (none-is-no-place at (sym (ap (labels_fault p) e ∙ (lowered-meets p ok).1) ∙ x.1))
lowered-is-yes p g (No Ports at) ok x e = absurd x
lowered-is-yes p g (No Stray at) ok x e = absurd x
lowered-is-yes p g (No Cycle at) ok x e = absurd x
