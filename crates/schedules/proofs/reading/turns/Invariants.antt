use Rattle.std.proofs.Common.{◌≡◌, ◌<◌, length}
use Rattle.std.specs.Prelude.{All}
use Rattle.sam_text.specs.Lines.{lines}
use Rattle.sam_text.specs.Counted.{counted_lines}
use Rattle.sam_text.specs.Remaining.{lines_left}
use Rattle.schedules.specs.Schedules.{turns_of}
use Rattle.schedules.proofs.TurnLemmas.{turns_then}
use Rattle.schedules.proofs.reading.turns.Given as goal

abbrev pub invariant-loop-line : goal.invariant-loop-line
invariant-loop-line l = record {
  read : turns_then l.schedule (turns_of l.blocks (lines_left l.lines)) ≡ turns_of l.blocks (counted_lines 1 (lines l.text));
  below : All (λ block. block < l.blocks) l.schedule;
}

abbrev pub decreases-loop-line : goal.decreases-loop-line
decreases-loop-line l = length (lines_left l.lines)
