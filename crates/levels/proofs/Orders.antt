-- Lists of numbers that are equal, and their order.
use Rattle.std.proofs.Common.{◌≡◌, ℕ, Bool, true, false, ◌&&◌, ◌||◌, List, [], ◌∷◌, eqb, ltb, refl, arith}
use Rattle.std.proofs.lemmas.Bool.Decides.{nat_tests}
use Rattle.sam_model.specs.Lists.{smaller}

pub and-left : (a b : Bool) → (a && b) ≡ true → a ≡ true
and-left true b h = refl
and-left false b h = h

pub and-right : (a b : Bool) → (a && b) ≡ true → b ≡ true
and-right true b h = h
and-right false b h = cc

pub eqb-same : (n : ℕ) → eqb n n ≡ true
eqb-same n = grind (arith, nat_tests)

pub eqb-true : (m n : ℕ) → eqb m n ≡ true → m ≡ n
eqb-true m n h = grind (arith, nat_tests)

pub ltb-irrefl : (n : ℕ) → ltb n n ≡ false
ltb-irrefl n = grind (arith, nat_tests)

pub smaller-irrefl : (p : List ℕ) → smaller p p ≡ false
smaller-irrefl [] = refl
smaller-irrefl (x ∷ p) = rw (ltb-irrefl x, eqb-same x) (smaller-irrefl p)

heads : (x y z : ℕ) (a b c : Bool) → (ltb x y || (eqb x y && a)) ≡ true → (ltb y z || (eqb y z && b)) ≡ true → (a ≡ true → b ≡ true → c ≡ true) → (ltb x z || (eqb x z && c)) ≡ true
heads x y z a b c h k both = grind (arith, nat_tests)

pub smaller-trans : (p q r : List ℕ) → smaller p q ≡ true → smaller q r ≡ true → smaller p r ≡ true
smaller-trans [] [] r h k = cc
smaller-trans [] (y ∷ q) [] h k = k
smaller-trans [] (y ∷ q) (z ∷ r) h k = refl
smaller-trans (x ∷ p) [] r h k = cc
smaller-trans (x ∷ p) (y ∷ q) [] h k = cc
smaller-trans (x ∷ p) (y ∷ q) (z ∷ r) h k = heads x y z (smaller p q) (smaller q r) (smaller p r) h k (smaller-trans p q r)

pub smaller-asym : (p q : List ℕ) → smaller p q ≡ true → smaller q p ≡ false
smaller-asym p q h = by_case (smaller q p) refl
  where
    by_case : (b : Bool) → smaller q p ≡ b → smaller q p ≡ false
    by_case false e = e
    by_case true e = let t = smaller-trans p q p h e in let i = smaller-irrefl p in cc
