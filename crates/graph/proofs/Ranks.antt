-- A rank that rises along every channel may be taken below the number of blocks.
use Rattle.std.specs.Prelude.{◌≡◌, ◌<◌, ◌≤◌, ℕ, zero, suc, Bool, cond, length}
use Rattle.std.proofs.Common.{arith, ltb, inl, inr, subst}
use Rattle.std.proofs.lemmas.Bool.{cases_lt}
use Rattle.std.proofs.lemmas.Bool.Decides.{nat_tests}
use Rattle.graph.specs.declared.graphs.Graph.{Graph}
use Rattle.graph.specs.Wiring.{channel, Rises, WellFormed}

-- how many of the first n numbers have a rank below r
abbrev one_more : Bool → ℕ → ℕ
one_more b n = cond b (suc n) n

abbrev smaller : (ℕ → ℕ) → ℕ → ℕ → ℕ
smaller rank zero r = 0
smaller rank (suc n) r = one_more (ltb (rank n) r) (smaller rank n r)

one_more-rises : (p r s m n : ℕ) → r ≤ s → m ≤ n → one_more (ltb p r) m ≤ one_more (ltb p s) n
one_more-rises p r s m n h le = grind (arith, nat_tests)

one_more-rises-more : (p r s m n : ℕ) → r ≤ s → m < n → one_more (ltb p r) m < one_more (ltb p s) n
one_more-rises-more p r s m n h le = grind (arith, nat_tests)

one_more-new : (p r s m n : ℕ) → r ≤ p → p < s → m ≤ n → one_more (ltb p r) m < one_more (ltb p s) n
one_more-new p r s m n h k le = grind (arith, nat_tests)

one_more-most : (p r m n : ℕ) → m ≤ n → one_more (ltb p r) m ≤ suc n
one_more-most p r m n le = grind (arith, nat_tests)

one_more-not : (p r m n : ℕ) → r ≤ p → m ≤ n → one_more (ltb p r) m < suc n
one_more-not p r m n h le = grind (arith, nat_tests)

one_more-less : (p r m n : ℕ) → m < n → one_more (ltb p r) m < suc n
one_more-less p r m n le = grind (arith, nat_tests)

smaller-most : (rank : ℕ → ℕ) (n r : ℕ) → smaller rank n r ≤ n
smaller-most rank zero r = omega arith
smaller-most rank (suc n) r = one_more-most (rank n) r (smaller rank n r) n (smaller-most rank n r)

smaller-rises : (rank : ℕ → ℕ) (n r s : ℕ) → r ≤ s → smaller rank n r ≤ smaller rank n s
smaller-rises rank zero r s h = omega arith
smaller-rises rank (suc n) r s h = one_more-rises (rank n) r s (smaller rank n r) (smaller rank n s) h (smaller-rises rank n r s h)

-- a number that isn't counted
smaller-less : (rank : ℕ → ℕ) (n r a : ℕ) → a < n → r ≤ rank a → smaller rank n r < n
smaller-less rank zero r a l h = absurd (omega (arith, l))
smaller-less rank (suc n) r a l h =
    elim (cases_lt a n) [
      | inl below ↦ one_more-less (rank n) r (smaller rank n r) n (smaller-less rank n r a below h)
      | inr past ↦ let e : a ≡ n = omega arith in
          one_more-not (rank n) r (smaller rank n r) n (subst (λ (x : ℕ). r ≤ rank x) e h) (smaller-most rank n r)
    ]

-- a number that is counted on one side alone
smaller-rises-more : (rank : ℕ → ℕ) (n r s a : ℕ) → a < n → r ≤ rank a → rank a < s → smaller rank n r < smaller rank n s
smaller-rises-more rank zero r s a l h k = absurd (omega (arith, l))
smaller-rises-more rank (suc n) r s a l h k =
    let le : r ≤ s = omega arith in
    elim (cases_lt a n) [
      | inl below ↦ one_more-rises-more (rank n) r s (smaller rank n r) (smaller rank n s) le (smaller-rises-more rank n r s a below h k)
      | inr past ↦ let e : a ≡ n = omega arith in
          one_more-new (rank n) r s (smaller rank n r) (smaller rank n s)
          (subst (λ (x : ℕ). r ≤ rank x) e h) (subst (λ (x : ℕ). rank x < s) e k) (smaller-rises rank n r s le)
    ]

-- the number of blocks of smaller rank
pub place : Graph → (ℕ → ℕ) → ℕ → ℕ
place g rank b = smaller rank (length g.blocks) (rank b)

pub place-below : (g : Graph) (rank : ℕ → ℕ) (b : ℕ) → b < length g.blocks → place g rank b < length g.blocks
unfolding place
place-below g rank b l = smaller-less rank (length g.blocks) (rank b) b l (omega arith)

pub place-rises : (g : Graph) → WellFormed g → (rank : ℕ → ℕ) → Rises g rank → Rises g (place g rank)
unfolding place
place-rises g w rank rises c l =
    smaller-rises-more rank (length g.blocks) (rank (channel g c).from_block) (rank (channel g c).to_block)
    (channel g c).from_block (w.came c l).0 (omega arith) (rises c l)
