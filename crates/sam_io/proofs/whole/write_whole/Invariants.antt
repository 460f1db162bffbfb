use Rattle.std.proofs.Common.{◌≡◌, ◌≤◌, ◌-◌, [], length, take}
use Rattle.sam_io.specs.Outside.{grown}
use Rattle.sam_io.proofs.whole.write_whole.Given as goal

abbrev pub invariant-pieces : goal.invariant-pieces
invariant-pieces g l =
    (l.done ≤ length l.bytes)
    × (g.O.Sink.written l.out ≡ grown (g.O.Sink.written l.initial.out) (take l.done l.bytes))
    × (g.O.Sink.faults l.initial.out ≤ g.O.Sink.faults l.out)
    × (l.bytes ≡ [] → l.out ≡ l.initial.out)

abbrev pub decreases-pieces : goal.decreases-pieces
decreases-pieces g l = length l.bytes - l.done
