-- The verdict on a graph: the first rule that it breaks, and the smallest place where it does.
use Rattle.std.specs.Prelude.{◌≡◌, Option, Some, None}
use Rattle.sam_base.specs.declared.faults.Rule.TheVariants.{Ports, Stray, Cycle, Writers, Labels}
use Rattle.sam_model.specs.declared.program.Program.{Program}
use Rattle.graph.specs.declared.graphs.Graph.{Graph}
use Rattle.graph_wiring.specs.declared.faults.WiringFault.{WiringFault}
use Rattle.graph_wiring.specs.declared.faults.WiringFault.TheVariants as wiring
use Rattle.graph_wiring.specs.Faults.{IsWiringFault}
use Rattle.graph_check.specs.declared.verdict.Verdict.{Verdict}
use Rattle.graph_check.specs.declared.verdict.Verdict.TheVariants.{Yes, No}
use Rattle.graph_check.specs.Faults.{writers_fault, labels_fault}

-- by the rules on writers and on labels, which are tried in this order
abbrev pub IsFormedVerdict : Program → Graph → Verdict → Type 0
IsFormedVerdict p g Yes = (writers_fault p g ≡ None) × (labels_fault p g ≡ None)
IsFormedVerdict p g (No Writers at) = writers_fault p g ≡ Some at
IsFormedVerdict p g (No Labels at) = (writers_fault p g ≡ None) × (labels_fault p g ≡ Some at)
IsFormedVerdict p g (No rule at) = ⊥

-- the verdict by a rule on the wiring
abbrev pub wiring_verdict : WiringFault → Verdict
wiring_verdict (wiring.Ports b) = No Ports b
wiring_verdict (wiring.Stray c) = No Stray c
wiring_verdict (wiring.Cycle b) = No Cycle b

-- the verdict behind the rules on the wiring
abbrev pub IsVerdictBehind : Program → Graph → Option WiringFault → Verdict → Type 0
IsVerdictBehind p g None verdict = IsFormedVerdict p g verdict
IsVerdictBehind p g (Some fault) verdict = verdict ≡ wiring_verdict fault

-- by all rules, in their order: those on the wiring, on writers, and on labels
abbrev pub IsVerdict : Program → Graph → Verdict → Type 0
IsVerdict p g verdict = (fault : Option WiringFault) × IsWiringFault g fault × IsVerdictBehind p g fault verdict
