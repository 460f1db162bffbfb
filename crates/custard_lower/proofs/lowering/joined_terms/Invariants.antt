use Rattle.std.proofs.Common.{◌≡◌, ◌≤◌, drop, length}
use Rattle.custard_lower.specs.Lowering.{with_terms}
use Rattle.custard_lower.proofs.lowering.joined_terms.Given as goal

abbrev pub invariant-loop-n : goal.invariant-loop-n
invariant-loop-n l = record {
  joined :
      with_terms l.p l.n l.tree l.levels (drop l.n l.p.terms)
      ≡ with_terms l.p 1 l.fn.tree l.fn.levels (drop 1 l.p.terms);
  few : length l.levels.coordinates ≤ 8;
  count : length l.levels.coordinates ≡ length l.p.result.order;
}
