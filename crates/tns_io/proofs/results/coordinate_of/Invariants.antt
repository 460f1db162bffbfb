use Rattle.std.proofs.Common.{◌≡◌, drop}
use Rattle.sam_model.specs.Lists.{coordinate}
use Rattle.tns_io.proofs.results.coordinate_of.Given as goal

abbrev pub invariant-loop-level : goal.invariant-loop-level
invariant-loop-level l =
    coordinate (drop l.level l.order) (drop l.level l.path) l.mode ≡ coordinate l.order l.path l.mode
