use Rattle.std.proofs.Common.{rules, ◌≡◌, true, false, ◌∙◌}
use Rattle.sam_model.specs.Expressions.{expanded, summed_over}
use Rattle.expand.specs.Counting.{have_long}
use Rattle.expand.proofs.Lengths.{long-over, long-sign}
use Rattle.expand.proofs.terms.top_terms.Goals as goal

pub returns-in_err-terms-clause-long : goal.returns-in_err-terms-clause-long
returns-in_err-terms-clause-long c = λ h.
    let e : have_long (expanded c.args.sizes.now c.args.top.now.body) ≡ true = search rules in
    long-sign c.args.sizes.now c.args.top.now.minus (summed_over c.args.sizes.now c.args.top.now.implied (expanded c.args.sizes.now c.args.top.now.body))
    ∙ long-over c.args.sizes.now c.args.top.now.implied (expanded c.args.sizes.now c.args.top.now.body) e

pub returns-in_err-terms-2-clause-long : goal.returns-in_err-terms-2-clause-long
returns-in_err-terms-2-clause-long c = λ h.
    let e : have_long (summed_over c.args.sizes.now c.args.top.now.implied (expanded c.args.sizes.now c.args.top.now.body)) ≡ true = search rules in
    long-sign c.args.sizes.now c.args.top.now.minus (summed_over c.args.sizes.now c.args.top.now.implied (expanded c.args.sizes.now c.args.top.now.body)) ∙ e

pub returns-clause-short : goal.returns-clause-short
returns-clause-short c = λ h.
    let e : have_long (summed_over c.args.sizes.now c.args.top.now.implied (expanded c.args.sizes.now c.args.top.now.body)) ≡ false = search rules in
    long-sign c.args.sizes.now c.args.top.now.minus (summed_over c.args.sizes.now c.args.top.now.implied (expanded c.args.sizes.now c.args.top.now.body)) ∙ e
