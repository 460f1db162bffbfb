use Rattle.std.proofs.Common.{◌≡◌, ◌≤◌, ◌-◌, length, Some}
use Rattle.sam_io.specs.Outside.{BeginsTold}
use Rattle.sam_io.proofs.whole.read_begun.Given as goal

abbrev pub invariant-pieces : goal.invariant-pieces
invariant-pieces g l =
    (length l.text ≤ 67108865)
    × (g.F.Files.told l.files ≡ g.F.Files.told l.initial.files)
    × (g.F.Files.place l.files ≡ Some (l.name, length l.text))
    × BeginsTold (g.F.Files.told l.initial.files) l.name l.text
    × (g.F.Files.faults l.initial.files ≤ g.F.Files.faults l.files)
    × (g.F.Files.misses l.initial.files ≤ g.F.Files.misses l.files)

abbrev pub decreases-pieces : goal.decreases-pieces
decreases-pieces g l = 67108865 - length l.text
