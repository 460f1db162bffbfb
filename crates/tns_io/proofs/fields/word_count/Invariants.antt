use Rattle.std.proofs.Common.{◌≡◌, ◌≤◌, length, ◌+◌}
use Rattle.sam_text.specs.Words.{words}
use Rattle.tns_io.proofs.fields.word_count.Given as goal

abbrev pub invariant-loop-behind : goal.invariant-loop-behind
invariant-loop-behind l = record {
  counted : l.count + length (words l.rest) ≡ length (words l.line);
  room : l.count + length l.rest ≤ length l.line;
}

abbrev pub decreases-loop-behind : goal.decreases-loop-behind
decreases-loop-behind l = length l.rest
