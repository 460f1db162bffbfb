use Rattle.std.proofs.Common.{◌≡◌, ◌≤◌, ◌-◌, length, drop}
use Rattle.notation.specs.Tokens.{tokens}
use Rattle.notation.specs.Positions.{statement_reading, run}
use Rattle.notation.proofs.reading.read.Given as goal

abbrev pub invariant-loop-state : goal.invariant-loop-state
invariant-loop-state l = record { in_text : l.at ≤ length l.text; same : run (length l.text) l.state (tokens 0 l.at (drop l.at l.text)) ≡ statement_reading l.text }

abbrev pub decreases-loop-state : goal.decreases-loop-state
decreases-loop-state l = length l.text - l.at
