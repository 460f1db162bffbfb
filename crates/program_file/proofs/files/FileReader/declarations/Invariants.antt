use Rattle.std.proofs.Common.{◌≡◌, [], length}
use Rattle.sam_text.specs.Remaining.{lines_left, past_end}
use Rattle.program_file.specs.Files.{declarations_in}
use Rattle.program_file.proofs.files.FileReader.declarations.Given as goal

-- from here on the declarations are read as from the start
abbrev pub invariant-loop-tensors : goal.invariant-loop-tensors
invariant-loop-tensors l = record {
  same : declarations_in (past_end l.self.lines) l.tensors (lines_left l.self.lines) ≡ declarations_in (past_end l.initial.self.lines) [] (lines_left l.initial.self.lines);
  past : past_end l.self.lines ≡ past_end l.initial.self.lines;
}

abbrev pub decreases-loop-tensors : goal.decreases-loop-tensors
decreases-loop-tensors l = length (lines_left l.self.lines)
