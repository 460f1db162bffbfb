use Rattle.std.proofs.Common.{◌≡◌, drop}
use Rattle.sam_io.specs.Outside.{bytes_of}
use Rattle.sam_io.proofs.memory.find.Given as goal

abbrev pub invariant-loop-k : goal.invariant-loop-k
invariant-loop-k l = bytes_of (drop l.k l.files) l.name ≡ bytes_of l.files l.name
