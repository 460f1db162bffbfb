-- Masks of accesses, and the levels of an access among the loops.
use Rattle.std.specs.Prelude.{◌≡◌, ◌<◌, ℕ, zero, suc, Bool, true, false, cond, ◌||◌, List, [], ◌∷◌, length, get_or}
use mathlib.Core.List.{map}
use Rattle.stream_model.specs.Terms.{TermData, keep, access_at}
use Rattle.stream_model.specs.Labels.{loop_sizes}

abbrev pub none : ℕ → List Bool
none zero = []
none (suc n) = false ∷ none n

-- access f alone, of n
abbrev pub only : ℕ → ℕ → List Bool
only zero f = []
only (suc n) zero = true ∷ none n
only (suc n) (suc f) = false ∷ only n f

abbrev pub any_of : List Bool → List Bool → List Bool
any_of [] ys = ys
any_of (x ∷ xs) [] = x ∷ xs
any_of (x ∷ xs) (y ∷ ys) = (x || y) ∷ any_of xs ys

-- the accesses that have the d-th loop, counted from 1: those that restrict the final coordinates of level d
abbrev pub final : TermData → ℕ → List Bool
final t zero = []
final t (suc d) = map (λ a. get_or a.has d false) t.accesses

-- how many levels of its tensor an access has among the first d loops
abbrev pub levels_before : List Bool → ℕ → ℕ
levels_before [] d = 0
levels_before (b ∷ mask) zero = 0
levels_before (b ∷ mask) (suc d) = cond b (suc (levels_before mask d)) (levels_before mask d)

-- the loops of each access have the sizes of its tensor's levels
abbrev pub AllFit : TermData → Type 0
AllFit t = (f : ℕ) → f < length t.accesses → keep (access_at t.accesses f).has (loop_sizes t.loops) ≡ (access_at t.accesses f).tensor.sizes
