use Rattle.std.proofs.Common.{◌≡◌, ◌-◌, length}
use Rattle.sam_text.specs.Remaining.{lines_left, past_end, text_length}
use Rattle.sam_text.proofs.lines.Lines.next.Given as goal

-- what is left, how many lines there are and how long the text is stays as it was
abbrev pub invariant-loop-self : goal.invariant-loop-self
invariant-loop-self l = record {
  left : lines_left l.self ≡ lines_left l.initial.self;
  past : past_end l.self ≡ past_end l.initial.self;
  same : text_length l.self ≡ text_length l.initial.self;
}

abbrev pub decreases-loop-self : goal.decreases-loop-self
decreases-loop-self l = length l.self.text.now - l.self.at
