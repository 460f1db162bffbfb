use Rattle.std.proofs.Common.{◌≡◌, ◌≤◌, length, drop}
use Rattle.sam_model.specs.Listing.{outer_place, path_of}
use Rattle.tns_io.specs.Walks.{NotPast}
use Rattle.tns_io.proofs.paths.Walk.reach.Given as goal

abbrev pub invariant-loop-level : goal.invariant-loop-level
invariant-loop-level l = record {
  bound : l.level ≤ length l.self.path.items;
  count : length l.self.path.items ≡ length l.initial.self.path.items;
  fibers : length l.self.fibers.items ≡ length l.self.path.items;
  place : l.place ≡ outer_place (drop l.level l.w.segs) l.number;
  path : drop l.level l.self.path.items ≡ path_of (drop l.level l.w.segs) (drop l.level l.w.crds) l.number;
  before : NotPast l.self.fibers.items l.w.segs l.number;
}

abbrev pub decreases-loop-level : goal.decreases-loop-level
decreases-loop-level l = l.level
