use Rattle.std.proofs.Common.{◌≡◌, ◌+◌, drop, length}
use Rattle.custard_lower.specs.Reductions.{reduced}
use Rattle.label_rules.specs.Plans.{left_marks, free_marks}
use Rattle.custard_lower.proofs.reductions.Levels.reduced.Given as goal

abbrev pub invariant-loop-i : goal.invariant-loop-i
invariant-loop-i l = record {
  reduced : l.self ≡ reduced l.trees (drop l.i l.on_left) l.fn.self;
  gone : l.gone ≡ free_marks (drop l.i l.on_left);
  after : l.after ≡ left_marks (drop l.i l.on_left);
  count : l.gone + l.after + l.i ≡ length l.on_left;
  levels : length l.self.coordinates + l.gone ≡ length l.on_left;
}
