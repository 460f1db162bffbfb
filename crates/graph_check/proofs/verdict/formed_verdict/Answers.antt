use Rattle.std.proofs.Common.{rules}
use Rattle.sam_base.specs.declared.faults.Rule.TheVariants.{Writers, Labels}
use Rattle.graph_check.specs.declared.verdict.Verdict.TheVariants.{Yes, No}
use Rattle.graph_check.specs.Verdicts.{IsFormedVerdict}
use Rattle.graph_check.proofs.VerdictLaws.{yes-fulfils, lowered-is-yes}
use Rattle.graph_check.proofs.verdict.formed_verdict.Goals as goal

pub returns-in-Some-clause-lowered : goal.returns-in-Some-clause-lowered
returns-in-Some-clause-lowered c =
    let x : IsFormedVerdict c.args.p.now c.args.g.now (No Writers c.in-Some.at) = search rules in
    lowered-is-yes c.args.p.now c.args.g.now (No Writers c.in-Some.at) c.requires.accepted x

pub returns-in-Some-2-clause-lowered : goal.returns-in-Some-2-clause-lowered
returns-in-Some-2-clause-lowered c =
    let x : IsFormedVerdict c.args.p.now c.args.g.now (No Labels c.in-Some-2.at) = search rules in
    lowered-is-yes c.args.p.now c.args.g.now (No Labels c.in-Some-2.at) c.requires.accepted x

pub returns-clause-fulfils : goal.returns-clause-fulfils
returns-clause-fulfils c =
    let x : IsFormedVerdict c.args.p.now c.args.g.now Yes = search rules in
    λ _. yes-fulfils c.args.p.now c.args.g.now c.requires.accepted x
