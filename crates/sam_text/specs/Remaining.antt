-- What a reader of lines has still to give.
use Rattle.std.specs.Prelude.{◌≡◌, ℕ, ◌+◌, List, [], length, drop}
use Rattle.sam_text.specs.declared.lines.Line.{Line}
use Rattle.sam_text.specs.declared.lines.Lines.{Lines}
use Rattle.sam_text.specs.Lines.{lines}
use Rattle.sam_text.specs.Counted.{NumberedLine, counted_lines}

-- the lines that are left
abbrev pub lines_left : Lines → List NumberedLine
lines_left reader = counted_lines reader.number (lines (drop reader.at reader.text.now))

-- one more than the number of all lines
abbrev pub past_end : Lines → ℕ
past_end reader = reader.number + length (lines (drop reader.at reader.text.now))

-- no line is longer than the whole text
abbrev pub text_length : Lines → ℕ
text_length reader = length reader.text.now

abbrev pub numbered : Line → NumberedLine
numbered line = record { number = line.number; text = line.text.now }

-- no line is left, and this is one more than the number of all lines
pub record AtEnd (reader : Lines) (number : ℕ) : Type 0 where
  pub none : lines_left reader ≡ []
  pub past : number ≡ past_end reader
