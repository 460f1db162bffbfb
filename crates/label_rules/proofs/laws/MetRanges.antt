-- The coordinates of a range that pass two tests are those that two ascending sides have in common.
use Rattle.std.specs.Prelude.{◌≡◌, ◌<◌, ℕ, zero, suc, ◌+◌, Bool, true, false, ◌&&◌, List, [], ◌∷◌, ◌++◌, length, None, refl, cond, eqb}
use Rattle.std.specs.List.{filter, range_with_len}
use mathlib.Core.List.{map}
use Rattle.std.proofs.Common.{arith, ◌∙◌, ap}
use Rattle.std.proofs.lemmas.Bool.Decides.{nat_tests}
use Rattle.stream_tokens.specs.Nest.{Leaf}
use Rattle.block_core.specs.Merge.{Head, Above, Ascends, meet, meet_one, look, padded}

-- the head of a coordinate, with the payloads that it has there
abbrev pub head : (ℕ → List Leaf) → ℕ → Head
head f c = (c, f c)

above_range : (f : ℕ → List Leaf) (P : ℕ → Bool) (a b n : ℕ) → a < b → Above a (map (head f) (filter P (range_with_len b n)))
above_range f P a b zero l = tt
above_range f P a b (suc n) l =
    by_case (P b) (above_range f P b (b + 1) n (omega arith)) (above_range f P a (b + 1) n (omega (arith, l)))
  where
    by_case : (p : Bool) → Above b (map (head f) (filter P (range_with_len (b + 1) n)))
        → Above a (map (head f) (filter P (range_with_len (b + 1) n)))
        → Above a (map (head f) (cond p (b ∷ filter P (range_with_len (b + 1) n)) (filter P (range_with_len (b + 1) n))))
    by_case true next same = (l, next)
    by_case false next same = same

-- what passes a test over a range ascends
pub ascends-range : (f : ℕ → List Leaf) (P : ℕ → Bool) (b n : ℕ) → Ascends (map (head f) (filter P (range_with_len b n)))
ascends-range f P b zero = tt
ascends-range f P b (suc n) = by_case (P b) (above_range f P b (b + 1) n (omega arith)) (ascends-range f P (b + 1) n)
  where
    by_case : (p : Bool) → Above b (map (head f) (filter P (range_with_len (b + 1) n)))
        → Ascends (map (head f) (filter P (range_with_len (b + 1) n)))
        → Ascends (map (head f) (cond p (b ∷ filter P (range_with_len (b + 1) n)) (filter P (range_with_len (b + 1) n))))
    by_case true above rest = above
    by_case false above rest = rest

-- a coordinate that stands before a range isn't there
pub not-there : (g : ℕ → List Leaf) (Q : ℕ → Bool) (a b n : ℕ) → a < b
    → look a (map (head g) (filter Q (range_with_len b n))) ≡ None
not-there g Q a b zero l = refl
not-there g Q a b (suc n) l = by_case (Q b) (not-there g Q a (b + 1) n (omega (arith, l)))
  where
    by_case : (q : Bool) → look a (map (head g) (filter Q (range_with_len (b + 1) n))) ≡ None
        → look a (map (head g) (cond q (b ∷ filter Q (range_with_len (b + 1) n)) (filter Q (range_with_len (b + 1) n)))) ≡ None
    by_case true e = let d : eqb a b ≡ false = grind (arith, nat_tests, l) in rw d e
    by_case false e = e

-- a right coordinate before all of the left is passed over
pass_right : (l r : ℕ) (f : ℕ → List Leaf) (P : ℕ → Bool) (h : Head) (b n : ℕ) (ks : List Head) → h.0 < b
    → meet l r (map (head f) (filter P (range_with_len b n))) (h ∷ ks)
    ≡ meet l r (map (head f) (filter P (range_with_len b n))) ks
pass_right l r f P h b zero ks e = refl
pass_right l r f P h b (suc n) ks e = by_case (P b) (pass_right l r f P h (b + 1) n ks (omega (arith, e)))
  where
    by_case : (p : Bool) → meet l r (map (head f) (filter P (range_with_len (b + 1) n))) (h ∷ ks)
        ≡ meet l r (map (head f) (filter P (range_with_len (b + 1) n))) ks
        → meet l r (map (head f) (cond p (b ∷ filter P (range_with_len (b + 1) n)) (filter P (range_with_len (b + 1) n))))
        (h ∷ ks)
        ≡ meet l r (map (head f) (cond p (b ∷ filter P (range_with_len (b + 1) n)) (filter P (range_with_len (b + 1) n)))) ks
    by_case true i =
        let d : eqb b h.0 ≡ false = grind (arith, nat_tests, e) in
        rw d (ap (meet_one l r (head f b) (look b ks)) i)
    by_case false i = i

-- as many payloads as are wanted stay as they are
all_there : (w : ℕ) (ps : List Leaf) → length ps ≡ w → padded w ps ≡ ps
all_there zero [] e = refl
all_there zero (p ∷ ps) e = absurd (omega (arith, e))
all_there (suc w) [] e = absurd (omega (arith, e))
all_there (suc w) (p ∷ ps) e = ap (λ (xs : List Leaf). p ∷ xs) (all_there w ps (omega (arith, e)))

-- the two sides meet at the coordinates that pass both tests, with the payloads of both
pub meet-ranges : (l r : ℕ) (f g : ℕ → List Leaf) → ((c : ℕ) → length (f c) ≡ l) → ((c : ℕ) → length (g c) ≡ r)
    → (P Q : ℕ → Bool) (b n : ℕ)
    → meet l r (map (head f) (filter P (range_with_len b n))) (map (head g) (filter Q (range_with_len b n)))
    ≡ map (head (λ c. f c ++ g c)) (filter (λ c. P c && Q c) (range_with_len b n))
meet-ranges l r f g wf wg P Q b zero = refl
meet-ranges l r f g wf wg P Q b (suc n) = by_case (P b) (Q b) (meet-ranges l r f g wf wg P Q (b + 1) n)
  where
    by_case : (p q : Bool)
        → meet l r (map (head f) (filter P (range_with_len (b + 1) n))) (map (head g) (filter Q (range_with_len (b + 1) n)))
        ≡ map (head (λ c. f c ++ g c)) (filter (λ c. P c && Q c) (range_with_len (b + 1) n))
        → meet l r (map (head f) (cond p (b ∷ filter P (range_with_len (b + 1) n)) (filter P (range_with_len (b + 1) n))))
        (map (head g) (cond q (b ∷ filter Q (range_with_len (b + 1) n)) (filter Q (range_with_len (b + 1) n))))
        ≡ map (head (λ c. f c ++ g c)) (cond (p && q) (b ∷ filter (λ c. P c && Q c) (range_with_len (b + 1) n))
        (filter (λ c. P c && Q c) (range_with_len (b + 1) n)))
    by_case true true e =
        let s : eqb b b ≡ true = grind (arith, nat_tests) in
        rw (s, all_there l (f b) (wf b), all_there r (g b) (wg b))
        (ap (λ (y : List Head). head (λ c. f c ++ g c) b ∷ y) (pass_right l r f P (head g b) (b + 1) n _ (omega arith) ∙ e))
    by_case true false e = rw (not-there g Q b (b + 1) n (omega arith)) e
    by_case false true e = pass_right l r f P (head g b) (b + 1) n _ (omega arith) ∙ e
    by_case false false e = e
