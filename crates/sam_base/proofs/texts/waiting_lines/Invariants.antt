use Rattle.std.proofs.Common.{◌≡◌, ◌++◌, drop}
use Rattle.sam_base.specs.Texts.{waiting_lines}
use Rattle.sam_base.proofs.texts.waiting_lines.Given as goal

-- what was written, and then the blocks that are left
abbrev pub invariant-loop-waiting : goal.invariant-loop-waiting
invariant-loop-waiting l = l.text ++ waiting_lines l.head (drop l.waiting-index l.blocks) ≡ waiting_lines l.head l.blocks
