-- What the rest of a list from a place on tells of that place.
use Rattle.std.proofs.Common.{◌≡◌, ◌<◌, ◌≤◌, ℕ, zero, suc, List, [], ◌∷◌, length, get_or, drop, arith}

-- nothing is left there
pub drop-none : {A : Type 0} (xs : List A) (n : ℕ) → drop n xs ≡ [] → length xs ≤ n
drop-none [] n e = omega arith
drop-none (x ∷ xs) zero e = absurd (cc)
drop-none (x ∷ xs) (suc n) e = omega (arith, drop-none xs n e)

-- x stands there, and xs follow it
pub record StandsAt {A : Type 0} (d : A) (all : List A) (n : ℕ) (x : A) (xs : List A) : Type 0 where
  pub inside : n < length all
  pub there : get_or all n d ≡ x
  pub after : drop (suc n) all ≡ xs

pub drop-some : {A : Type 0} (d : A) (all : List A) (n : ℕ) (x : A) (xs : List A) → drop n all ≡ x ∷ xs → StandsAt d all n x xs
drop-some d [] zero x xs e = absurd (cc)
drop-some d [] (suc n) x xs e = absurd (cc)
drop-some d (a ∷ all) zero x xs e = record { inside = omega arith; there = cc; after = cc }
drop-some d (a ∷ all) (suc n) x xs e = further (drop-some d all n x xs e)
  where
    further : StandsAt d all n x xs → StandsAt d (a ∷ all) (suc n) x xs
    further s = record { inside = omega (arith, s.inside); there = s.there; after = s.after }
