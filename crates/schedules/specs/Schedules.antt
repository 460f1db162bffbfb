-- The schedule that a text spells: a block number on each line that counts.
use Rattle.std.specs.Prelude.{ℕ, ◌&&◌, List, [], ◌∷◌, Option, Some, None, Result, Ok, Err, nat_lt, if◌then◌else◌}
use Rattle.sam_base.specs.declared.faults.Fault.{Fault}
use Rattle.sam_base.specs.declared.faults.Fault.TheVariants.{Schedule}
use Rattle.sam_text.specs.Numbers.{decimal, is_decimal}
use Rattle.sam_text.specs.Lines.{lines}
use Rattle.sam_text.specs.Words.{words}
use Rattle.sam_text.specs.Counted.{NumberedLine, counted_lines}

-- the block whose turn a line says, by its words: one decimal below the number of blocks
abbrev pub turn_of : ℕ → List (List ℕ) → Option ℕ
turn_of blocks [] = None
turn_of blocks (word ∷ []) = if is_decimal word && nat_lt (decimal word) blocks then Some (decimal word) else None
turn_of blocks (word ∷ other ∷ more) = None

-- a turn before those of later lines; a line that says none is the first bad one
abbrev pub with_turn : ℕ → Option ℕ → Result (List ℕ) Fault → Result (List ℕ) Fault
with_turn number None later = Err (Schedule number)
with_turn number (Some block) (Ok later) = Ok (block ∷ later)
with_turn number (Some block) (Err fault) = Err fault

abbrev pub turns_of : ℕ → List NumberedLine → Result (List ℕ) Fault
turns_of blocks [] = Ok []
turns_of blocks (line ∷ more) = with_turn line.number (turn_of blocks (words line.text)) (turns_of blocks more)

-- the schedule that a file spells; none are the bytes of a file that is too long
abbrev pub schedule_in : ℕ → Option (List ℕ) → Result (List ℕ) Fault
schedule_in blocks None = Err (Schedule 0)
schedule_in blocks (Some bytes) = turns_of blocks (counted_lines 1 (lines bytes))
