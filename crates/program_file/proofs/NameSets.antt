-- Lists of names that differ, and which of them a longer list has.
use Rattle.std.proofs.Common.{◌≡◌, ℕ, suc, ◌≤◌, List, [], ◌∷◌, ◌++◌, length, Bool, true, false, ◌||◌, inl, inr, cond, refl, sym, subst, arith}
use Rattle.std.specs.Str.{bytes_eq}
use Rattle.std.proofs.lemmas.Bool.{and_parts, and_from, or_parts, or_from, or_left, or_right, or_cases, not-true, not_from_false, both_ways, false_from_ne_true}
use Rattle.sam_model.specs.Accepted.{is_named, distinct_names}
use Rattle.program_file.proofs.BoundLemmas.{same-name, name-same, other-name}

-- the names without the first that is this one
abbrev without : List ℕ → List (List ℕ) → List (List ℕ)
without n [] = []
without n (y ∷ ys) = cond (bytes_eq n y) ys (y ∷ without n ys)

shorter-step : (t : Bool) (n y : List ℕ) (ys : List (List ℕ)) → (t || is_named n ys) ≡ true → (is_named n ys ≡ true → suc (length (without n ys)) ≡ length ys) → suc (length (cond t ys (y ∷ without n ys))) ≡ suc (length ys)
shorter-step true n y ys e h = refl
shorter-step false n y ys e h = let k = h e in omega (arith, k)

length-without : (n : List ℕ) (ys : List (List ℕ)) → is_named n ys ≡ true → suc (length (without n ys)) ≡ length ys
length-without n [] e = absurd cc
length-without n (y ∷ ys) e = shorter-step (bytes_eq n y) n y ys e (length-without n ys)

still-step : (t : Bool) (m n y : List ℕ) (ys : List (List ℕ)) → bytes_eq n y ≡ t → bytes_eq m n ≡ false → (bytes_eq m y || is_named m ys) ≡ true → (is_named m ys ≡ true → is_named m (without n ys) ≡ true) → is_named m (cond t ys (y ∷ without n ys)) ≡ true
still-step true m n y ys t other e h = elim (or_cases (bytes_eq m y) (is_named m ys) e) [
  | inl k ↦ absurd (both_ways (bytes_eq m n) other (subst (λ z. bytes_eq m z ≡ true) (sym (same-name n y t)) k))
  | inr k ↦ k
]
still-step false m n y ys t other e h = elim (or_cases (bytes_eq m y) (is_named m ys) e) [
  | inl k ↦ or_left _ _ k
  | inr k ↦ or_right (bytes_eq m y) _ (h k)
]

named-without : (m n : List ℕ) (ys : List (List ℕ)) → bytes_eq m n ≡ false → is_named m ys ≡ true → is_named m (without n ys) ≡ true
named-without m n [] other e = absurd cc
named-without m n (y ∷ ys) other e = still-step (bytes_eq n y) m n y ys refl other e (named-without m n ys other)

-- names that differ and that all stand in a list are no more than those of the list
pub no-more : (xs ys : List (List ℕ)) → distinct_names xs ≡ true → ((n : List ℕ) → is_named n xs ≡ true → is_named n ys ≡ true) → length xs ≤ length ys
no-more [] ys d h = omega arith
no-more (x ∷ xs) ys d h =
    let p = and_parts _ _ d in
    let alone : is_named x xs ≡ false = not-true _ p.0 in
    let here = length-without x ys (h x (or_left _ _ (name-same x x refl))) in
    let rest = no-more xs (without x ys) p.1 (λ n k. named-without n x ys (apart n x xs alone k) (h n (or_right (bytes_eq n x) _ k))) in
    omega (arith, here, rest)
  where
    apart : (n x : List ℕ) (xs : List (List ℕ)) → is_named x xs ≡ false → is_named n xs ≡ true → bytes_eq n x ≡ false
    apart n x xs alone k = false_from_ne_true (bytes_eq n x) (λ e. both_ways (is_named x xs) alone (subst (λ m. is_named m xs ≡ true) (same-name n x e) k))

named-end : (n : List ℕ) (xs : List (List ℕ)) (m : List ℕ) → is_named n xs ≡ false → bytes_eq n m ≡ false → is_named n (xs ++ m ∷ []) ≡ false
named-end n [] m h k = or_from _ _ k refl
named-end n (x ∷ xs) m h k = let p = or_parts _ _ h in or_from _ _ p.0 (named-end n xs m p.1 k)

-- names that differ, with one more
pub distinct-end : (xs : List (List ℕ)) (m : List ℕ) → distinct_names xs ≡ true → is_named m xs ≡ false → distinct_names (xs ++ m ∷ []) ≡ true
distinct-end [] m d h = refl
distinct-end (x ∷ xs) m d h =
    let p = and_parts _ _ d in
    let q = or_parts _ _ h in
    and_from _ _ (not_from_false _ (named-end x xs m (not-true _ p.0) (other-name m x q.0))) (distinct-end xs m p.1 q.1)
