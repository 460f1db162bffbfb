-- Some schedules over eleven blocks.
use Rattle.std.proofs.Common.{◌≡◌, ◌++◌, refl, List, [], ◌∷◌, codes}
use Rattle.std.specs.Prelude.{ℕ, Some, None, Result, Ok, Err}
use Rattle.sam_base.specs.declared.faults.Fault.{Fault}
use Rattle.sam_base.specs.declared.faults.Fault.TheVariants.{Schedule}
use Rattle.schedules.specs.Schedules.{schedule_in}

abbrev spelled : List ℕ → Result (List ℕ) Fault
spelled bytes = schedule_in 11 (Some bytes)

-- a line and its newline
abbrev line : List ℕ → List ℕ
line text = text ++ 10 ∷ []

nobody : spelled [] ≡ Ok []
nobody = refl

two_turns : spelled (line (codes "0") ++ line (codes "10")) ≡ Ok (0 ∷ 10 ∷ [])
two_turns = refl

-- the last line counts without its newline
unended : spelled (line (codes "3") ++ codes "007") ≡ Ok (3 ∷ 7 ∷ [])
unended = refl

-- comments, blanks and carriage returns
skipped : spelled (line (codes "# nobody") ++ line (codes "  #9") ++ line [] ++ line (32 ∷ 9 ∷ 13 ∷ []) ++ line (9 ∷ codes "4 " ++ 13 ∷ [])) ≡ Ok (4 ∷ [])
skipped = refl

-- the block past the last one, told by its line
past_the_blocks : spelled (line (codes "10") ++ line (codes "11")) ≡ Err (Schedule 2)
past_the_blocks = refl

-- of bad lines the first is told, and skipped lines have numbers
first_bad_line : spelled (line (codes "#") ++ line [] ++ line (codes "1") ++ line (codes "1 2") ++ codes "x") ≡ Err (Schedule 4)
first_bad_line = refl

behind_a_turn : spelled (line (codes "1 # one")) ≡ Err (Schedule 1)
behind_a_turn = refl

signed : spelled (codes "+1") ≡ Err (Schedule 1)
signed = refl

longer_than_64_bits : spelled (codes "18446744073709551617") ≡ Err (Schedule 1)
longer_than_64_bits = refl

too_long : schedule_in 11 None ≡ Err (Schedule 0)
too_long = refl

no_blocks : schedule_in 0 (Some (line (codes "0"))) ≡ Err (Schedule 1)
no_blocks = refl
