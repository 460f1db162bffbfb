-- Up to 19 digits spell a number of 64 bits.
use Rattle.std.proofs.Common.{◌≤◌, ◌^◌, arith, sym, ◌∙◌}
use Rattle.sam_text.proofs.DecimalLemmas.{tens, stops-before, stops-last}
use Rattle.sam_text.proofs.decimals.leading_number.Goals as goal

pub overflow_mul-number : goal.overflow_mul-number
overflow_mul-number c =
    let most : c.min-most.result ≤ 19 = omega (arith, c.min-most.ensures) in
    let few : 10 ^ c.loop-count.count ≤ 10 ^ 18 = tens c.loop-count.count 18 (omega (arith, most, c.loop-count-test.true)) in
    let small = c.loop-count.invariant.small in
    omega (arith, few, small)

pub overflow_add-number : goal.overflow_add-number
overflow_add-number c =
    let most : c.min-most.result ≤ 19 = omega (arith, c.min-most.ensures) in
    let few : 10 ^ c.loop-count.count ≤ 10 ^ 18 = tens c.loop-count.count 18 (omega (arith, most, c.loop-count-test.true)) in
    let small = c.loop-count.invariant.small in
    omega (arith, few, small)

pub returns-else-is_digit-clause-count : goal.returns-else-is_digit-clause-count
returns-else-is_digit-clause-count c =
    stops-before c.loop-count.count 19 c.args.word.now (omega arith) c.loop-count.invariant.most c.loop-count.invariant.digits (sym c.is_digit.ensures ∙ c.if-is_digit.false)

pub returns-after-loop-count-clause-count : goal.returns-after-loop-count-clause-count
returns-after-loop-count-clause-count c =
    stops-last c.loop-count.count 19 c.args.word.now c.loop-count.invariant.within c.loop-count.invariant.most (omega (arith, c.min-most.ensures)) c.loop-count.invariant.digits
