use Rattle.std.proofs.Common.{◌≡◌, length}
use Rattle.custard_fuse.specs.Sharing.{all_factors, shared_levels_of}
use Rattle.custard_fuse.proofs.sharing.Fusing.shared_levels.Given as goal

abbrev pub invariant-loop-d : goal.invariant-loop-d
invariant-loop-d l = record {
  levels : l.nest ≡ shared_levels_of l.self.plans.now l.self.last l.self.levels l.d l.fn.made;
  coordinates : length l.nest.coordinates ≡ l.d;
  references : length l.nest.references ≡ all_factors l.self.plans.now;
}
