use Rattle.std.proofs.Common.{subst}
use Rattle.std.proofs.lemmas.Result.{IfOk-weaker}
use Rattle.graph_wiring.specs.Faults.{IsWiringFault}
use Rattle.graph_check.proofs.WholeVerdicts.{lowered-is-wired}
use Rattle.graph_check.proofs.verdict.verify_graph.Goals as goal

pub returns-in-Some-clause-lowered : goal.returns-in-Some-clause-lowered
returns-in-Some-clause-lowered c =
    let g = c.args.g.now in
    let wired = subst (IsWiringFault g) c.in-Some.is c.in_ok-fault.ensures.exact in
    IfOk-weaker c.wiring_verdict.result _ _
    (λ verdict is same. absurd (lowered-is-wired c.args.p.now c.requires g c.in-Some.fault wired same)) c.wiring_verdict.ensures
