-- Arguments that were read, before those that are left.
use Rattle.std.proofs.Common.{◌≡◌, ◌++◌, ℕ, ap, sym, List, [], ◌∷◌, append_assoc, append-nil}
use Rattle.std.specs.Prelude.{Some}
use Rattle.label_reading.specs.Words.{with_argument}

abbrev pub arguments_then : List ℕ → List ℕ × List (List ℕ) → List ℕ × List (List ℕ)
arguments_then done later = (done ++ later.0, later.1)

-- one argument more
pub then_more : (done : List ℕ) (n : ℕ) (here : List (List ℕ)) (behind : List ℕ × List (List ℕ))
    → arguments_then done (with_argument (Some n) here behind) ≡ arguments_then (done ++ n ∷ []) behind
then_more done n here behind = ap (λ (l : List ℕ). (l, behind.1)) (sym (append_assoc done (n ∷ []) behind.0))

-- none is left
pub then_none : (done : List ℕ) (here : List (List ℕ)) → arguments_then done ([], here) ≡ (done, here)
then_none done here = ap (λ (l : List ℕ). (l, here)) (append-nil done)
