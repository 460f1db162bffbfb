use Rattle.std.proofs.Common.{◌<◌, length, true, false, sym, ◌∙◌, ap, arith}
use Rattle.std.specs.Int.Bits.{bit_or}
use Rattle.std.specs.List.{filter, range_with_len}
use Rattle.std.proofs.Common.{ℕ, ◌+◌, ◌-◌}
use Rattle.label_rules.specs.Masks.{mask_with}
use Rattle.label_rules.specs.Plans.{has_loop}
use Rattle.std.proofs.lemmas.Nat.{one_shl}
use Rattle.graph_check.proofs.Ranges.{mask_further}
use Rattle.graph_check.proofs.terms.full_mask.Goals as goal
use Rattle.graph_check.proofs.terms.full_mask.Goals.{then-has_loop, else-has_loop}

pub loop-f-preserved : goal.loop-f-preserved
loop-f-preserved c =
    let has = has_loop c.args.plan.now c.args.loop_number in
    let n = length c.args.plan.now.accesses in
    let more : c.loop-f.f < n = omega arith in
    let rest = filter has (range_with_len (c.loop-f.f + 1) (n - (c.loop-f.f + 1))) in
    elim c.if-has_loop.branch [
      | then-has_loop w ↦
          let few : c.loop-f.f < 8 = omega arith in
          ap (λ (m : ℕ). mask_with m rest) (w.mask-is ∙ ap (bit_or c.loop-f.mask) (one_shl c.loop-f.f 8 few))
          ∙ sym (mask_further has true c.loop-f.mask c.loop-f.f n more (sym c.has_loop.ensures ∙ w.if-has_loop.true))
          ∙ c.loop-f.invariant
      | else-has_loop w ↦
          ap (λ (m : ℕ). mask_with m rest) w.mask-is
          ∙ sym (mask_further has false c.loop-f.mask c.loop-f.f n more (sym c.has_loop.ensures ∙ w.if-has_loop.false))
          ∙ c.loop-f.invariant
    ]
