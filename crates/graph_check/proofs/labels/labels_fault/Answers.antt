use Rattle.std.specs.Prelude.{◌<◌, ◌≤◌, length}
use Rattle.std.proofs.Common.{arith, sym, ◌∙◌, ap}
use Rattle.sam_model.specs.declared.program.Program.{Program}
use Rattle.graph_check.specs.Faults.{labels_allowed}
use Rattle.graph_check.proofs.FirstFailing.{passes-next}
use Rattle.graph_check.proofs.LabelsFault.{fails-there, fails-nowhere}
use Rattle.graph_check.proofs.labels.labels_fault.Goals as goal

pub returns-then-not-branch : goal.returns-then-not-branch
returns-then-not-branch c =
    let p = c.args.p.now in let g = c.args.g.now in let b = c.loop-b.b in
    let less : b < length g.blocks = omega (arith, c.loop-b-test.true, c.len-b-end.ensures) in
    let answer = c.in_ok-allows_at.ensures ∙ ap (λ (q : Program). labels_allowed q g b) c.in_ok-rules.ensures.same in
    sym (fails-there p g b less c.loop-b.invariant (sym answer ∙ c.if-not-branch.true))

pub loop-b-preserved : goal.loop-b-preserved
loop-b-preserved c =
    let p = c.args.p.now in let g = c.args.g.now in let b = c.loop-b.b in
    let answer = c.in_ok-allows_at.ensures ∙ ap (λ (q : Program). labels_allowed q g b) c.in_ok-rules.ensures.same in
    passes-next (labels_allowed p g) b c.loop-b.invariant (sym answer ∙ c.if-not-branch.false)

pub returns : goal.returns
returns c =
    let p = c.args.p.now in let g = c.args.g.now in
    let end : length g.blocks ≤ c.loop-b.b = omega arith in
    sym (fails-nowhere p g (λ k i. c.loop-b.invariant k (omega (arith, i, end))))
