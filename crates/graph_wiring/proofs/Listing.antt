-- Numbers that stand in a list, as it grows at its end.
use Rattle.std.specs.Prelude.{◌≡◌, ◌<◌, ◌≤◌, ◌+◌, ℕ, List, [], ◌∷◌, ◌++◌, length, get_or, take, refl}
use Rattle.std.proofs.Common.{inl, inr, arith, sym, ◌∙◌}
use Rattle.std.proofs.lemmas.Bool.{cases_lt}
use Rattle.std.proofs.lemmas.List.{length_push, get_or_push, get_or_append_left, take_all, take_more}
use Rattle.graph_wiring.specs.Searching.{Among, Once}

pub among-more : (xs : List ℕ) (y m n x : ℕ) → m ≤ length xs → m ≤ n → Among xs m x → Among (xs ++ y ∷ []) n x
among-more xs y m n x lm le there = (there.0, omega (arith, there.1, le), get_or_append_left xs (y ∷ []) 0 there.0 (omega (arith, there.1, lm)) ∙ there.2)

pub among-whole : (xs : List ℕ) (y x : ℕ) → Among xs (length xs) x → Among (xs ++ y ∷ []) (length (xs ++ y ∷ [])) x
among-whole xs y x there =
    let more = length_push xs y in among-more xs y (length xs) (length (xs ++ y ∷ [])) x (omega arith) (omega (arith, more)) there

pub among-last : (xs : List ℕ) (x : ℕ) → Among (xs ++ x ∷ []) (length (xs ++ x ∷ [])) x
among-last xs x = let more = length_push xs x in (length xs, omega (arith, more), get_or_push xs x 0 (length xs) refl)

-- a number that is not the last stands before it
pub among-front : (xs : List ℕ) (y x : ℕ) → (x ≡ y → ⊥) → Among (xs ++ y ∷ []) (length (xs ++ y ∷ [])) x → Among xs (length xs) x
among-front xs y x ne there =
    let more = length_push xs y in
    elim (cases_lt there.0 (length xs)) [
      | inl less ↦ (there.0, less, sym (get_or_append_left xs (y ∷ []) 0 there.0 less) ∙ there.2)
      | inr top ↦ let e : length xs ≡ there.0 = omega (arith, there.1, more, top) in
          absurd (ne (sym there.2 ∙ get_or_push xs y 0 there.0 e))
    ]

pub once-front : (xs : List ℕ) (y : ℕ) → Once (xs ++ y ∷ []) → Once xs
once-front xs y once i j li lj e =
    let more = length_push xs y in
    once i j (omega (arith, li, more)) (omega (arith, lj, more))
    (get_or_append_left xs (y ∷ []) 0 i li ∙ e ∙ sym (get_or_append_left xs (y ∷ []) 0 j lj))

-- and differs from those before
pub once-last : (xs : List ℕ) (y : ℕ) → Once (xs ++ y ∷ []) → (i : ℕ) → i < length xs → get_or xs i 0 ≡ y → ⊥
once-last xs y once i li e =
    let more = length_push xs y in
    let same : i ≡ length xs = once i (length xs) (omega (arith, li, more)) (omega (arith, more))
    (get_or_append_left xs (y ∷ []) 0 i li ∙ e ∙ sym (get_or_push xs y 0 (length xs) refl)) in
    omega (arith, same, li)

pub once-more : (xs : List ℕ) (y : ℕ) → Once xs → ((i : ℕ) → i < length xs → get_or xs i 0 ≡ y → ⊥) → Once (xs ++ y ∷ [])
once-more xs y once new i j li lj e =
    let more = length_push xs y in
    elim (cases_lt i (length xs)) [
      | inl li' ↦ elim (cases_lt j (length xs)) [
        | inl lj' ↦ once i j li' lj' (sym (get_or_append_left xs (y ∷ []) 0 i li') ∙ e ∙ get_or_append_left xs (y ∷ []) 0 j lj')
        | inr top ↦ let at : length xs ≡ j = omega (arith, lj, more, top) in
            absurd (new i li' (sym (get_or_append_left xs (y ∷ []) 0 i li') ∙ e ∙ get_or_push xs y 0 j at))
      ]
      | inr top ↦ let at : length xs ≡ i = omega (arith, li, more, top) in
          elim (cases_lt j (length xs)) [
            | inl lj' ↦ absurd (new j lj' (sym (get_or_append_left xs (y ∷ []) 0 j lj') ∙ sym e ∙ get_or_push xs y 0 i at))
            | inr top' ↦ omega (arith, at, lj, more, top')
          ]
    ]

-- a list is what stands before its last number, and that
pub before-last : (xs ys : List ℕ) (n b : ℕ) → n + 1 ≡ length xs → ys ≡ take n xs → b ≡ get_or xs n 0 → xs ≡ ys ++ b ∷ []
before-last xs ys n b e front last =
    let all : xs ≡ take n xs ++ get_or xs n 0 ∷ [] = sym (take_all (n + 1) xs (omega (arith, e))) ∙ take_more xs n 0 (omega (arith, e)) in
    rw (front, last) all
