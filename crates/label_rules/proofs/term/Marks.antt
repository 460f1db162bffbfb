-- The marks of a term's loops count those that are on the left and those that aren't.
use Rattle.std.specs.Prelude.{◌≡◌, suc, ◌+◌, Bool, true, false, List, [], ◌∷◌, length, refl}
use mathlib.Core.List.{map}
use Rattle.std.proofs.Common.{arith, ap}
use Rattle.sam_model.specs.Denote.{Loop}
use Rattle.stream_model.specs.Trees.{free_count, kept_sizes}
use Rattle.label_rules.specs.Plans.{left_marks, free_marks}

-- whether each loop is on the left
abbrev pub marks : List Loop → List Bool
marks loops = map (λ (l : Loop). l.1) loops

-- those on the left are the levels that are kept
pub left-marks : (loops : List Loop) → left_marks (marks loops) ≡ length (kept_sizes loops)
left-marks [] = refl
left-marks ((s, true) ∷ loops) = ap suc (left-marks loops)
left-marks ((s, false) ∷ loops) = left-marks loops

pub free-marks : (loops : List Loop) → free_marks (marks loops) ≡ free_count loops
free-marks [] = refl
free-marks ((s, true) ∷ loops) = free-marks loops
free-marks ((s, false) ∷ loops) = ap suc (free-marks loops)

-- each loop is one or the other
pub counted-marks : (loops : List Loop) → length loops ≡ left_marks (marks loops) + free_count loops
counted-marks [] = refl
counted-marks ((s, true) ∷ loops) = let r = counted-marks loops in omega (arith, r)
counted-marks ((s, false) ∷ loops) = let r = counted-marks loops in omega (arith, r)
