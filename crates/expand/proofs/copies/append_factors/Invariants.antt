use Rattle.std.proofs.Common.{◌≡◌, ◌++◌, take}
use Rattle.expand.proofs.copies.append_factors.Given as goal

abbrev pub invariant-loop-factor : goal.invariant-loop-factor
invariant-loop-factor l = l.factors ≡ l.initial.factors ++ take l.factor-index l.more
