-- What the words that are borrowed hold.
use Rattle.std.specs.Prelude.{ℕ, List, Option, option_map}
use Rattle.std.specs.Borrow.{Bor}
use Rattle.words.specs.Line.{Given}
use Rattle.words.specs.declared.asking.Words.{Words}

abbrev pub text_in : Option (Bor (List ℕ)) → Option (List ℕ)
text_in = option_map (λ text. text.now)

abbrev pub given_by : Words → Given
given_by w = record {
  command = w.command.now;
  subject = w.subject.now;
  graph = text_in w.graph;
  capacity = text_in w.capacity;
  of = text_in w.of;
  schedule = text_in w.schedule;
  fused = w.fused;
}
