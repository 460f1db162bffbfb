-- The first loops that are kept, compared one by one.
use Rattle.std.specs.Prelude.{◌≡◌, ◌<◌, ◌≤◌, ◌-◌, length, get_or, drop, ℕ, zero, suc, Bool, true, false, cond, ◌&&◌, ◌||◌, List, [], ◌∷◌, take, eqb, leb, refl}
use Rattle.std.proofs.Common.{arith, sym, ◌∙◌, ap}
use Rattle.std.proofs.Math.Seq.{take-length}
use Rattle.std.proofs.lemmas.Bool.Decides.{nat_tests}
use Rattle.sam_model.specs.declared.program.Program.{Program}
use Rattle.sam_model.specs.Lists.{same_list}
use Rattle.label_rules.specs.Plans.{free_marks}
use Rattle.label_rules.specs.TermLabels.{kept_from}

not-same : (n m : ℕ) (b : Bool) → n < m → (eqb n m && b) ≡ false
not-same n m b l = let e : eqb n m ≡ false = grind (arith, nat_tests, l) in rw e refl

not-same-back : (n m : ℕ) (b : Bool) → n < m → (eqb m n && b) ≡ false
not-same-back n m b l = let e : eqb m n ≡ false = grind (arith, nat_tests, l) in rw e refl

module _ (p : Program) (t : ℕ) where
  -- what begins with a number isn't among loops that come after it
  later : (h n m d : ℕ) (xs : List ℕ) (marks : List Bool) → n < m → same_list (n ∷ xs) (take d (kept_from p t h m marks)) ≡ false
  later h n m zero xs marks l = refl
  later h n m (suc d) xs [] l = refl
  later h n m (suc d) xs (b ∷ marks) l = by_case (b || leb h (free_marks marks)) (later h n (suc m) (suc d) xs marks (omega (arith, l)))
    where
      by_case : (y : Bool) → same_list (n ∷ xs) (take (suc d) (kept_from p t h (suc m) marks)) ≡ false
          → same_list (n ∷ xs) (take (suc d) (cond y (m ∷ kept_from p t h (suc m) marks) (kept_from p t h (suc m) marks))) ≡ false
      by_case true e = not-same n m (same_list xs (take d (kept_from p t h (suc m) marks))) l
      by_case false e = e

  later-back : (h n m d : ℕ) (xs : List ℕ) (marks : List Bool) → n < m → same_list (take d (kept_from p t h m marks)) (n ∷ xs) ≡ false
  later-back h n m zero xs marks l = refl
  later-back h n m (suc d) xs [] l = refl
  later-back h n m (suc d) xs (b ∷ marks) l = by_case (b || leb h (free_marks marks)) (later-back h n (suc m) (suc d) xs marks (omega (arith, l)))
    where
      by_case : (y : Bool) → same_list (take (suc d) (kept_from p t h (suc m) marks)) (n ∷ xs) ≡ false
          → same_list (take (suc d) (cond y (m ∷ kept_from p t h (suc m) marks) (kept_from p t h (suc m) marks))) (n ∷ xs) ≡ false
      by_case true e = not-same-back n m (same_list (take d (kept_from p t h (suc m) marks)) xs) l
      by_case false e = e

  abbrev pub same_from : ℕ → ℕ → ℕ → ℕ → List Bool → Bool
  same_from d g h n marks = same_list (take d (kept_from p t g n marks)) (take d (kept_from p t h n marks))

  -- one loop further
  step : (g h d n : ℕ) (rest : List Bool) (x y : Bool)
      → same_list (take (suc d) (cond x (n ∷ kept_from p t g (suc n) rest) (kept_from p t g (suc n) rest)))
      (take (suc d) (cond y (n ∷ kept_from p t h (suc n) rest) (kept_from p t h (suc n) rest)))
      ≡ cond x (cond y (same_from d g h (suc n) rest) false) (cond y false (same_from (suc d) g h (suc n) rest))
  step g h d n rest true true = let e : eqb n n ≡ true = grind (arith, nat_tests) in rw e refl
  step g h d n rest true false = later h n (suc n) (suc d) (take d (kept_from p t g (suc n) rest)) rest (omega arith)
  step g h d n rest false true = later-back g n (suc n) (suc d) (take d (kept_from p t h (suc n) rest)) rest (omega arith)
  step g h d n rest false false = refl

  pub kept-step : (g h d n : ℕ) (b : Bool) (rest marks : List Bool) (x y : Bool) → marks ≡ b ∷ rest → 0 < d
      → (b || leb g (free_marks rest)) ≡ x → (b || leb h (free_marks rest)) ≡ y
      → same_from d g h n marks
      ≡ cond x (cond y (same_from (d - 1) g h (suc n) rest) false) (cond y false (same_from d g h (suc n) rest))
  kept-step g h zero n b rest marks x y is some e k = absurd (omega (arith, some))
  kept-step g h (suc d) n b rest marks x y is some e k =
      let back : suc d - 1 ≡ d = omega arith in
      ap (same_from (suc d) g h n) is
      ∙ step g h d n rest (b || leb g (free_marks rest)) (b || leb h (free_marks rest))
      ∙ rw (e, k, back) refl

-- all but the first
abbrev pub rest_of : List Bool → List Bool
rest_of marks = take (length marks - 1) (drop 1 marks)

pub not-empty : (marks : List Bool) → 1 ≤ length marks → marks ≡ get_or marks 0 false ∷ rest_of marks
not-empty [] some = absurd (omega (arith, some))
not-empty (b ∷ marks) some =
    let count : length (b ∷ marks) - 1 ≡ length marks = omega arith in
    ap (λ (xs : List Bool). b ∷ xs) (sym (ap (λ (n : ℕ). take n marks) count ∙ take-length marks))
