use Rattle.std.proofs.Common.{◌+◌, ◌-◌, ◌*◌, ◌≤◌, ◌^◌, get_or, nat_lt, Some, None, arith, sym, take}
use Rattle.std.proofs.lemmas.Bool.{cond-false}
use Rattle.sam_text.specs.Numbers.{decimal}
use Rattle.sam_text.proofs.DecimalLemmas.{too_large}
use Rattle.sam_text.proofs.numbers.number_of.Goals as goal

pub returns-then-number-digit : goal.returns-then-number-digit
returns-then-number-digit c =
    let all = c.args.digits.now in
    let h : 2 ^ 64 ≤ decimal (take c.loop-byte.byte-index all) * 10 + (get_or all c.loop-byte.byte-index 0 - 48) = omega arith in
    sym (cond-false (nat_lt (decimal all) (2 ^ 64)) (Some (decimal all)) None (too_large all c.loop-byte.byte-index 0 (omega arith) h))
