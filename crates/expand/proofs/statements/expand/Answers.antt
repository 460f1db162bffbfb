use Rattle.std.proofs.Common.{rules, arith, ◌≡◌, ◌≤◌, true, false, min, length, ◌∙◌, sym, subst}
use Rattle.sam_model.specs.Expressions.{expanded_tops}
use Rattle.expand.specs.Counting.{terms_count, have_long, IsShort}
use Rattle.expand.proofs.Lengths.{many-tops, few-tops}
use Rattle.expand.proofs.Kept.{keeps-meaning}
use Rattle.expand.proofs.statements.expand.Goals as goal

pub returns-then-terms_count-gt-TERMS_MOST-clause-refused : goal.returns-then-terms_count-gt-TERMS_MOST-clause-refused
returns-then-terms_count-gt-TERMS_MOST-clause-refused c =
    let e : c.terms_count.result ≡ min (terms_count c.args.tops.now) 17 = cc in
    many-tops c.args.sizes.now c.args.tops.now c.terms_count.result e c.if-terms_count-gt-TERMS_MOST.true

pub returns-in-Ok-clause-meaning : goal.returns-in-Ok-clause-meaning
returns-in-Ok-clause-meaning c = λ p es x sizes terms.
    let made : c.from_vec.result ≡ expanded_tops c.args.sizes.now c.args.tops.now = search rules in
    keeps-meaning c.args.sizes.now c.args.tops.now p es x sizes (terms ∙ made)

pub returns-in-Ok-clause-short : goal.returns-in-Ok-clause-short
returns-in-Ok-clause-short c =
    let counted : c.terms_count.result ≡ min (terms_count c.args.tops.now) 17 = cc in
    let few : length (expanded_tops c.args.sizes.now c.args.tops.now) ≤ 16 =
    few-tops c.args.sizes.now c.args.tops.now c.terms_count.result counted (omega (arith, c.if-terms_count-gt-TERMS_MOST.false)) in
    let short : have_long (expanded_tops c.args.sizes.now c.args.tops.now) ≡ false = search rules in
    let made : c.from_vec.result ≡ expanded_tops c.args.sizes.now c.args.tops.now = search rules in
    subst IsShort (sym made) (record { few = few; short = short })

pub returns-in-Err-Long-clause-refused : goal.returns-in-Err-Long-clause-refused
returns-in-Err-Long-clause-refused c =
    let counted : c.terms_count.result ≡ min (terms_count c.args.tops.now) 17 = cc in
    let few : length (expanded_tops c.args.sizes.now c.args.tops.now) ≤ 16 =
    few-tops c.args.sizes.now c.args.tops.now c.terms_count.result counted (omega (arith, c.if-terms_count-gt-TERMS_MOST.false)) in
    let long : have_long (expanded_tops c.args.sizes.now c.args.tops.now) ≡ true = search rules in
    (few, long)
