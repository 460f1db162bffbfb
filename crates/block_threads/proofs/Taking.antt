-- Ends that are taken one after another.
use Rattle.std.proofs.Common.{◌≡◌, ◌≢◌, ℕ, zero, suc, ◌+◌, ◌<◌, ◌≤◌, List, [], ◌∷◌, ◌++◌, length, set, refl, sym, ap, ◌∙◌, arith, ⊎_elim, length-append}
use Rattle.std.specs.Prelude.{Option, Some, slice_get, slice_index}
use Rattle.std.proofs.lemmas.Bool.{cases_lt}
use Rattle.plays.proofs.Lists.{same_some, get_set_there}

pub record TakenTo {T : Type 0} (olds : List (Option T)) (cs : List ℕ) (i : ℕ) (news : List (Option T)) (taken : List T) : Type 0 where
  pub number : length taken ≡ i
  pub got : (p : ℕ) (x : T) → p < i → slice_get olds (slice_index cs p) ≡ Some (Some x) → slice_get taken p ≡ Some x
  pub others : (c : ℕ) → ((p : ℕ) → p < i → slice_index cs p ≢ c) → slice_get news c ≡ slice_get olds c

pub at_back : {T : Type 0} (xs : List T) (y : T) (n : ℕ) → n ≡ length xs → slice_get (xs ++ y ∷ []) n ≡ Some y
at_back [] y zero e = refl
at_back [] y (suc n) e = absurd (omega arith)
at_back (x ∷ xs) y zero e = absurd (omega arith)
at_back (x ∷ xs) y (suc n) e = at_back xs y n (omega arith)

pub in_front : {T : Type 0} (xs : List T) (y : T) (n : ℕ) → n < length xs → slice_get (xs ++ y ∷ []) n ≡ slice_get xs n
in_front [] y n less = absurd (omega arith)
in_front (x ∷ xs) y zero less = refl
in_front (x ∷ xs) y (suc n) less = in_front xs y n (omega arith)

module _ {T : Type 0} (olds : List (Option T)) (cs : List ℕ) (i : ℕ) (news : List (Option T)) (taken : List T) (h : TakenTo olds cs i news taken)
    (within : i < length cs)
    (apart : (p q : ℕ) → p < q → q < length cs → slice_index cs p ≢ slice_index cs q) where
  pub still : slice_get news (slice_index cs i) ≡ slice_get olds (slice_index cs i)
  still = h.others (slice_index cs i) (λ p less. apart p i less within)

  pub waits_there : (waiting : (p : ℕ) → p < length cs → (x : T) × (slice_get olds (slice_index cs p) ≡ Some (Some x)))
      → (x : T) × (slice_get news (slice_index cs i) ≡ Some (Some x))
  waits_there waiting = let w = waiting i within in (w.0, still ∙ w.1)

  module _ (y : T) (z : Option T) (at : slice_get news (slice_index cs i) ≡ Some (Some y)) where
    got_more : (p : ℕ) (x : T) → p < i + 1 → slice_get olds (slice_index cs p) ≡ Some (Some x) → slice_get (taken ++ y ∷ []) p ≡ Some x
    got_more p x less was =
        let number = h.number in
        ⊎_elim (λ (before : p < i). in_front taken y p (omega arith) ∙ h.got p x before was)
        (λ (last : i ≤ p).
        let here : p ≡ i = omega arith in
        let both : Some y ≡ Some x = same_some (Some y) (Some x) (sym at ∙ still ∙ ap (λ k. slice_get olds (slice_index cs k)) (sym here) ∙ was) in
        at_back taken y p (omega arith) ∙ both) (cases_lt p i)

    pub took_more : TakenTo olds cs (i + 1) (set news (slice_index cs i) z) (taken ++ y ∷ [])
    took_more = record {
      number = length-append taken (y ∷ []) ∙ ap (λ k. k + 1) h.number;
      got = got_more;
      others = λ c away. get_set_there news (slice_index cs i) c z (λ e. away i (omega arith) (sym e)) ∙ h.others c (λ p less. away p (omega (arith, less)));
    }
