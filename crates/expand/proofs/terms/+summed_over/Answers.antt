use Rattle.std.proofs.Common.{rules, arith, ◌≡◌, ◌<◌, true, length, slice_index}
use mathlib.Core.List.{map}
use Rattle.sam_model.specs.Expressions.{summed_term}
use Rattle.expand.specs.Counting.{have_long}
use Rattle.expand.proofs.Lengths.{long-first_over}
use Rattle.expand.proofs.terms.+summed_over.Goals as goal

pub returns-in_err-summed-in-len1-up-clause-long : goal.returns-in_err-summed-in-len1-up-clause-long
returns-in_err-summed-in-len1-up-clause-long t c = λ h.
    let some : 0 < length c.args.vars.now = omega (arith, c.in-len1-up.len_at_least) in
    let e : have_long (map (summed_term c.args.sizes.now (slice_index c.args.vars.now 0)) c.args.terms.items) ≡ true = search rules in
    long-first_over c.args.sizes.now c.args.vars.now c.args.terms.items some e
