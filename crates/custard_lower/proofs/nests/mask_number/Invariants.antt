use Rattle.std.proofs.Common.{◌≡◌, drop}
use Rattle.label_rules.specs.Masks.{mask_with, factors_mask}
use Rattle.custard_lower.proofs.nests.mask_number.Given as goal

abbrev pub invariant-loop-f : goal.invariant-loop-f
invariant-loop-f l = mask_with l.mask (drop l.f-index l.factors) ≡ factors_mask l.factors
