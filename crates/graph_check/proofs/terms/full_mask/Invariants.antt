use Rattle.std.proofs.Common.{◌≡◌, ◌-◌, length}
use Rattle.std.specs.List.{filter, range_with_len}
use Rattle.label_rules.specs.Masks.{mask_with, factors_mask}
use Rattle.label_rules.specs.Plans.{asked, has_loop}
use Rattle.graph_check.proofs.terms.full_mask.Given as goal

abbrev pub invariant-loop-f : goal.invariant-loop-f
invariant-loop-f l =
    mask_with l.mask (filter (has_loop l.plan l.loop_number) (range_with_len l.f (length l.plan.accesses - l.f)))
    ≡ factors_mask (asked l.plan l.loop_number)
