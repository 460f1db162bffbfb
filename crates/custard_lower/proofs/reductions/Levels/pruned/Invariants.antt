use Rattle.std.proofs.Common.{◌≡◌, ◌-◌, length}
use Rattle.custard_lower.specs.Reductions.{emptied, pruned}
use Rattle.custard_lower.proofs.reductions.Levels.pruned.Given as goal

abbrev pub invariant-loop-f : goal.invariant-loop-f
invariant-loop-f l = record {
  pruned : emptied l.trees (l.f - 1) l.self ≡ pruned l.trees l.fn.self;
  levels : length l.self.coordinates ≡ l.levels;
}
