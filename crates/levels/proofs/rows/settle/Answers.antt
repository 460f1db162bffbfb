-- Each exchange keeps the same rows.
use Rattle.std.proofs.Common.{arith, ◌∙◌}
use Rattle.std.proofs.lemmas.List.Sorted.{IsPermutation-trans}
use Rattle.levels.proofs.rows.settle.Goals as goal

pub loop-place-preserved : goal.loop-place-preserved
loop-place-preserved c = record {
  same = IsPermutation-trans c.args.rows.now c.loop-place.rows c.swap.new.self c.loop-place.invariant.same c.swap.ensures.permutation;
  long = c.swap.ensures.len ∙ c.loop-place.invariant.long;
  within = omega arith;
}
