-- Turns that were read, before those that are left.
use Rattle.std.proofs.Common.{◌≡◌, ◌++◌, ℕ, ap, refl, List, [], ◌∷◌, Some}
use Rattle.std.specs.Prelude.{Result, Ok, Err}
use Rattle.sam_base.specs.declared.faults.Fault.{Fault}
use Rattle.schedules.specs.Schedules.{with_turn}

abbrev pub turns_then : List ℕ → Result (List ℕ) Fault → Result (List ℕ) Fault
turns_then [] later = later
turns_then (block ∷ done) later = with_turn 0 (Some block) (turns_then done later)

-- one turn more
pub then_more : (done : List ℕ) (number block : ℕ) (later : Result (List ℕ) Fault)
    → turns_then done (with_turn number (Some block) later) ≡ turns_then (done ++ block ∷ []) later
then_more [] number block (Ok later) = refl
then_more [] number block (Err fault) = refl
then_more (b ∷ done) number block later = ap (with_turn 0 (Some b)) (then_more done number block later)

-- no line is left
pub then_none : (done : List ℕ) → turns_then done (Ok []) ≡ Ok done
then_none [] = refl
then_none (b ∷ done) = ap (with_turn 0 (Some b)) (then_none done)

-- the next line is bad
pub then_bad : (done : List ℕ) (fault : Fault) → turns_then done (Err fault) ≡ Err fault
then_bad [] fault = refl
then_bad (b ∷ done) fault = ap (with_turn 0 (Some b)) (then_bad done fault)
