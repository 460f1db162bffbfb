use Rattle.std.proofs.Common.{◌≡◌, ◌≤◌, ◌-◌, length}
use Rattle.custard_fuse.specs.Fusing.{deeper_levels}
use Rattle.custard_fuse.proofs.sharing.Fusing.deeper_levels.Given as goal

abbrev pub invariant-loop-d : goal.invariant-loop-d
invariant-loop-d l = record {
  deeper : l.nest ≡ deeper_levels l.self.last l.self.levels l.numbered.trees l.numbered.plan.now (l.d - l.self.levels) l.fn.nest;
  coordinates : length l.nest.coordinates ≡ l.d;
  references : length l.nest.references ≡ length l.numbered.plan.now.accesses;
  levels : l.self.levels ≤ l.d;
}
