use Rattle.std.proofs.Common.{◌≡◌, length}
use Rattle.sam_text.specs.Words.{words}
use Rattle.label_reading.specs.Words.{arguments_in}
use Rattle.label_reading.proofs.Arguments.{arguments_then}
use Rattle.label_reading.proofs.reading.arguments.Given as goal

abbrev pub invariant-loop-word : goal.invariant-loop-word
invariant-loop-word l = arguments_then l.arguments.items (arguments_in (words l.rest)) ≡ arguments_in (words l.text)

abbrev pub decreases-loop-word : goal.decreases-loop-word
decreases-loop-word l = length l.rest
