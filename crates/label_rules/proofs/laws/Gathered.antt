-- What is gathered of elements with coordinates: each coordinate that occurs, ascending, with the sum of its elements.
use Rattle.std.specs.Prelude.{◌≡◌, ◌⊎◌, ◌<◌, ◌≤◌, ℕ, zero, suc, ◌+◌, Bool, true, false, cond, ◌||◌, List, [], ◌∷◌, ◌++◌, eqb, ltb, refl}
use Rattle.std.specs.List.{flat_map, filter, list_any, range_with_len}
use mathlib.Core.List.{map}
use Rattle.std.proofs.Common.{arith, sym, ◌∙◌, ap, subst, inl, inr}
use Rattle.std.proofs.lemmas.Bool.Decides.{nat_tests}
use Rattle.std.proofs.lemmas.Bool.{cases_lt}
use Rattle.sam_model.specs.Lists.{below}
use Rattle.stream_tokens.specs.Shapes.{Each}
use Rattle.sam_model.proofs.Lists.{Each-range, Each-map, Each-flat_map, Each-always, filter-range, list_any-flat_map, list_any-ext, map-ext, filter-never}
use Rattle.block_core.specs.Gather.{add_at, gather}

-- ---- tests of numbers

below_true : (c x : ℕ) → c < x → ltb c x ≡ true
below_true c x h = grind (arith, nat_tests)

below_false : (c x : ℕ) → x ≤ c → ltb c x ≡ false
below_false c x h = grind (arith, nat_tests)

same_true : (c x : ℕ) → c ≡ x → eqb c x ≡ true
same_true c x h = grind (arith, nat_tests)

below_apart : (c x : ℕ) → c < x → eqb c x ≡ false
below_apart c x h = grind (arith, nat_tests)

above_apart : (c x : ℕ) → x < c → eqb c x ≡ false
above_apart c x h = grind (arith, nat_tests)

-- ---- sums at a coordinate

-- an addition that can be regrouped, to which one element adds nothing
pub record Adds {V : Type 0} (add : V → V → V) (none : V) : Type 0 where
  pub left : (v : V) → add none v ≡ v
  pub right : (v : V) → add v none ≡ v
  pub regroups : (u v w : V) → add (add u v) w ≡ add u (add v w)

-- whether an element has this coordinate
abbrev pub occurs : {V : Type 0} → List (ℕ × V) → ℕ → Bool
occurs ps x = list_any (λ p. eqb p.0 x) ps

-- the sum of all
abbrev pub sum_all : {V : Type 0} → (V → V → V) → V → List V → V
sum_all add none [] = none
sum_all add none (v ∷ vs) = add v (sum_all add none vs)

-- the sum of the elements that have this coordinate
abbrev pub total_at : {V : Type 0} → (V → V → V) → V → List (ℕ × V) → ℕ → V
total_at add none [] x = none
total_at add none (p ∷ ps) x = cond (eqb p.0 x) (add p.1 (total_at add none ps x)) (total_at add none ps x)

-- these coordinates, each with its element
abbrev pub paired : {V : Type 0} → (ℕ → V) → List ℕ → List (ℕ × V)
paired v xs = map (λ x. (x, v x)) xs

-- those of them that pass a test
abbrev pub listed : {V : Type 0} → (ℕ → Bool) → (ℕ → V) → List ℕ → List (ℕ × V)
listed test v xs = paired v (filter test xs)

-- those of xs that pass, and before them a, where the flag says that it passes
abbrev headed : {V : Type 0} → (ℕ → Bool) → (ℕ → V) → Bool → ℕ → List ℕ → List (ℕ × V)
headed test v b a xs = paired v (cond b (a ∷ filter test xs) (filter test xs))

-- ---- lists of the same coordinates with the same elements

module _ {V : Type 0} (test test' : ℕ → Bool) (v v' : ℕ → V) where
  listed_ext : (Q : ℕ → Type 0) → ((x : ℕ) → Q x → test x ≡ test' x) → ((x : ℕ) → Q x → test' x ≡ true → v x ≡ v' x)
      → (xs : List ℕ) → Each Q xs → listed test v xs ≡ listed test' v' xs
  listed_ext Q h k [] e = refl
  listed_ext Q h k (x ∷ xs) e =
      ap (λ b. headed test v b x xs) (h x e.0) ∙ by_case (test' x) refl (listed_ext Q h k xs e.1)
    where
      by_case : (b : Bool) → test' x ≡ b → listed test v xs ≡ listed test' v' xs → headed test v b x xs ≡ headed test' v' b x xs
      by_case true t r =
          ap {B = List (ℕ × V)} (λ (w : V). (x, w) ∷ listed test v xs) (k x e.0 t)
          ∙ ap (λ (ps : List (ℕ × V)). (x, v' x) ∷ ps) r
      by_case false t r = r

  -- two tests that agree below n, and elements that agree where they are passed
  pub listed-ext : (n : ℕ) → ((x : ℕ) → x < n → test x ≡ test' x) → ((x : ℕ) → x < n → test' x ≡ true → v x ≡ v' x)
      → listed test v (below n) ≡ listed test' v' (below n)
  listed-ext n h k = listed_ext (λ x. x < n) h k (below n) (Each-range 0 n n (omega arith))

each_above : (c a n : ℕ) → c < a → Each (λ x. c < x) (range_with_len a n)
each_above c a zero h = tt
each_above c a (suc n) h = (h, each_above c (a + 1) n (omega (arith, h)))

-- ---- one element more

module _ {V : Type 0} (add : V → V → V) (test : ℕ → Bool) (w : ℕ → V) (c : ℕ) (v : V) where
  -- the elements that there are, and those with one more at c
  abbrev some : List ℕ → List (ℕ × V)
  some xs = listed test w xs

  abbrev with_one : ℕ → V
  with_one x = cond (eqb c x) (add v (w x)) (w x)

  abbrev more : List ℕ → List (ℕ × V)
  more xs = listed (λ x. eqb c x || test x) with_one xs

  -- an element whose coordinate is below all others comes first
  before_head : (b : Bool) (a : ℕ) (xs : List ℕ) → c < a → add_at add c v (some xs) ≡ (c, v) ∷ some xs
      → add_at add c v (headed test w b a xs) ≡ (c, v) ∷ headed test w b a xs
  before_head true a xs h e = rw (below_true c a h) refl
  before_head false a xs h e = e

  add_first : (a n : ℕ) → c < a → add_at add c v (some (range_with_len a n)) ≡ (c, v) ∷ some (range_with_len a n)
  add_first a zero h = refl
  add_first a (suc n) h = before_head (test a) a (range_with_len (a + 1) n) h (add_first (a + 1) n (omega (arith, h)))

  unchanged : (a n : ℕ) → c < a → more (range_with_len a n) ≡ some (range_with_len a n)
  unchanged a n h =
      listed_ext (λ x. eqb c x || test x) test with_one w (λ x. c < x)
      (λ x k. ap (λ b. b || test x) (below_apart c x k)) (λ x k t. ap (λ b. cond b (add v (w x)) (w x)) (below_apart c x k))
      (range_with_len a n) (each_above c a n h)

  -- at the first coordinate, and after it
  at_head : (none : V) → add v none ≡ v → (b : Bool) (a : ℕ) (xs : List ℕ) → (b ≡ false → w a ≡ none) → a ≡ c
      → add_at add c v (some xs) ≡ (c, v) ∷ some xs → add_at add c v (headed test w b a xs) ≡ (a, add v (w a)) ∷ some xs
  at_head none right true a xs z e r =
      rw (below_false c a (omega (arith, e)), same_true c a (sym e))
      (ap {B = List (ℕ × V)} (λ (x : ℕ). (x, add v (w a)) ∷ some xs) (sym e))
  at_head none right false a xs z e r =
      r ∙ ap {B = List (ℕ × V)} (λ (x : ℕ). (x, v) ∷ some xs) (sym e)
      ∙ ap {B = List (ℕ × V)} (λ (u : V). (a, u) ∷ some xs) (sym (ap (add v) (z refl) ∙ right))

  past_head : (b : Bool) (a : ℕ) (xs : List ℕ) → a < c → add_at add c v (some xs) ≡ more xs
      → add_at add c v (headed test w b a xs) ≡ headed (λ x. eqb c x || test x) with_one b a xs
  past_head true a xs l r =
      rw (below_false c a (omega (arith, l)), above_apart c a l) (ap (λ (ps : List (ℕ × V)). (a, w a) ∷ ps) r)
  past_head false a xs l r = r

  added : (none : V) → add v none ≡ v → ((x : ℕ) → test x ≡ false → w x ≡ none) → (a n : ℕ) → a ≤ c → c < a + n
      → add_at add c v (some (range_with_len a n)) ≡ more (range_with_len a n)
  added none right z a zero h k = absurd (omega (arith, h, k))
  added none right z a (suc n) h k = by_order (cases_lt a c) (added none right z (a + 1) n)
    where
      by_order : (a < c) ⊎ (c ≤ a)
          → (a + 1 ≤ c → c < a + 1 + n → add_at add c v (some (range_with_len (a + 1) n)) ≡ more (range_with_len (a + 1) n))
          → add_at add c v (some (a ∷ range_with_len (a + 1) n)) ≡ more (a ∷ range_with_len (a + 1) n)
      by_order (inl l) r =
          rw (above_apart c a l) (past_head (test a) a (range_with_len (a + 1) n) l (r (omega (arith, l)) (omega (arith, k))))
      by_order (inr l) r =
          let e : a ≡ c = omega (arith, h, l) in
          rw (same_true c a (sym e))
          (at_head none right (test a) a (range_with_len (a + 1) n) (z a) e (add_first (a + 1) n (omega (arith, e)))
          ∙ ap (λ (ps : List (ℕ × V)). (a, add v (w a)) ∷ ps) (sym (unchanged (a + 1) n (omega (arith, e))))
          ∙ ap (λ b. (a, cond b (add v (w a)) (w a)) ∷ more (range_with_len (a + 1) n)) (sym (same_true c a (sym e))))

-- ---- what is gathered

-- each coordinate is one of n from a on
abbrev pub PlacesBetween : {V : Type 0} → ℕ → ℕ → List (ℕ × V) → Type 0
PlacesBetween a n ps = Each (λ p. (a ≤ p.0) × (p.0 < a + n)) ps

module _ {V : Type 0} (add : V → V → V) (none : V) where
  -- a coordinate that doesn't occur has no sum
  pub total-absent : (ps : List (ℕ × V)) (x : ℕ) → occurs ps x ≡ false → total_at add none ps x ≡ none
  total-absent [] x h = refl
  total-absent (p ∷ ps) x h = by_case (eqb p.0 x) h (total-absent ps x)
    where
      by_case : (b : Bool) → (b || occurs ps x) ≡ false → (occurs ps x ≡ false → total_at add none ps x ≡ none)
          → cond b (add p.1 (total_at add none ps x)) (total_at add none ps x) ≡ none
      by_case true k r = absurd (cc)
      by_case false k r = r k

  -- Of elements with coordinates in a range, those that occur are gathered, ascending, with their sums.
  pub gather-range : ((v : V) → add v none ≡ v) → (a n : ℕ) (ps : List (ℕ × V)) → PlacesBetween a n ps
      → gather add ps ≡ listed (occurs ps) (total_at add none ps) (range_with_len a n)
  gather-range right a n [] h = sym (ap (paired (λ x. none)) (filter-never (λ x. false) (λ x. refl) (range_with_len a n)))
  gather-range right a n (p ∷ ps) h =
      ap (add_at add p.0 p.1) (gather-range right a n ps h.1)
      ∙ added add (occurs ps) (total_at add none ps) p.0 p.1 none (right p.1) (total-absent ps) a n h.0.0 h.0.1

-- ---- what is gathered of lists in a row

module _ {V : Type 0} (add : V → V → V) (none : V) (laws : Adds add none) where
  total_append : (ps qs : List (ℕ × V)) (x : ℕ)
      → total_at add none (ps ++ qs) x ≡ add (total_at add none ps x) (total_at add none qs x)
  total_append [] qs x = sym (laws.left (total_at add none qs x))
  total_append (p ∷ ps) qs x = by_case (eqb p.0 x) (total_append ps qs x)
    where
      by_case : (b : Bool) → total_at add none (ps ++ qs) x ≡ add (total_at add none ps x) (total_at add none qs x)
          → cond b (add p.1 (total_at add none (ps ++ qs) x)) (total_at add none (ps ++ qs) x)
          ≡ add (cond b (add p.1 (total_at add none ps x)) (total_at add none ps x)) (total_at add none qs x)
      by_case true e = ap (add p.1) e ∙ sym (laws.regroups p.1 (total_at add none ps x) (total_at add none qs x))
      by_case false e = e

  total_rows : {C : Type 0} (f : C → List (ℕ × V)) (cs : List C) (x : ℕ)
      → total_at add none (flat_map f cs) x ≡ sum_all add none (map (λ c. total_at add none (f c) x) cs)
  total_rows f [] x = refl
  total_rows f (c ∷ cs) x = total_append (f c) (flat_map f cs) x ∙ ap (add (total_at add none (f c) x)) (total_rows f cs x)

  -- ---- one list

  -- whether x occurs, and its sum
  abbrev Has : List (ℕ × V) → ℕ → Bool → V → Type 0
  Has ps x b u = (occurs ps x ≡ b) × (total_at add none ps x ≡ u)

  module _ (test : ℕ → Bool) (v : ℕ → V) where
    not_head : (b : Bool) (a : ℕ) (xs : List ℕ) (x : ℕ) (c : Bool) (u : V) → eqb a x ≡ false → Has (listed test v xs) x c u
        → Has (headed test v b a xs) x c u
    not_head true a xs x c u h e = (rw h e.0, rw h e.1)
    not_head false a xs x c u h e = e

    is_head : (b : Bool) (a : ℕ) (xs : List ℕ) → Has (listed test v xs) a false none
        → Has (headed test v b a xs) a b (cond b (v a) none)
    is_head true a xs e = (rw (same_true a a refl) refl, rw (same_true a a refl) (ap (add (v a)) e.1 ∙ laws.right (v a)))
    is_head false a xs e = e

    -- nothing occurs before a range
    before_range : (a n x : ℕ) → x < a → Has (listed test v (range_with_len a n)) x false none
    before_range a zero x h = (refl, refl)
    before_range a (suc n) x h =
        not_head (test a) a (range_with_len (a + 1) n) x false none (above_apart a x h)
        (before_range (a + 1) n x (omega (arith, h)))

    in_range : (a n x : ℕ) → a ≤ x → x < a + n → Has (listed test v (range_with_len a n)) x (test x) (cond (test x) (v x) none)
    in_range a zero x h k = absurd (omega (arith, h, k))
    in_range a (suc n) x h k = by_order (cases_lt a x) (in_range (a + 1) n x)
      where
        by_order : (a < x) ⊎ (x ≤ a)
            → (a + 1 ≤ x → x < a + 1 + n → Has (listed test v (range_with_len (a + 1) n)) x (test x) (cond (test x) (v x) none))
            → Has (listed test v (a ∷ range_with_len (a + 1) n)) x (test x) (cond (test x) (v x) none)
        by_order (inl l) r =
            not_head (test a) a (range_with_len (a + 1) n) x (test x) (cond (test x) (v x) none) (below_apart a x l)
            (r (omega (arith, l)) (omega (arith, k)))
        by_order (inr l) r =
            let same : a ≡ x = omega (arith, h, l) in
            subst (λ (y : ℕ). Has (listed test v (a ∷ range_with_len (a + 1) n)) y (test y) (cond (test y) (v y) none)) same
            (is_head (test a) a (range_with_len (a + 1) n) (before_range (a + 1) n a (omega arith)))

  -- ---- many lists

  -- Of lists below one size, each coordinate that is in some list is gathered, ascending, with the sum over the lists that
  -- have it.
  pub gather-rows : {C : Type 0} (n : ℕ) (test : C → ℕ → Bool) (v : C → ℕ → V) (cs : List C)
      → gather add (flat_map (λ c. listed (test c) (v c) (below n)) cs)
      ≡ listed (λ x. list_any (λ c. test c x) cs) (λ x. sum_all add none (map (λ c. cond (test c x) (v c x) none) cs)) (below n)
  gather-rows {C = C} n test v cs =
      gather-range add none laws.right 0 n (flat_map row cs)
      (Each-flat_map (λ (c : C). Unit {0}) (λ p. (0 ≤ p.0) × (p.0 < 0 + n)) row (λ c u. in_row c) cs
      (Each-always (λ (c : C). Unit {0}) (λ c. tt) cs))
      ∙ listed-ext (occurs (flat_map row cs)) (λ x. list_any (λ c. test c x) cs) (total_at add none (flat_map row cs))
      (λ x. sum_all add none (map (λ c. cond (test c x) (v c x) none) cs)) n
      (λ x k.
      list_any-flat_map (λ p. eqb p.0 x) row cs
      ∙ list_any-ext (λ c. occurs (row c) x) (λ c. test c x) (λ c. (has c x k).0) cs)
      (λ x k t.
      total_rows row cs x
      ∙ ap (sum_all add none)
      (map-ext (λ c. total_at add none (row c) x) (λ c. cond (test c x) (v c x) none) (λ c. (has c x k).1) cs))
    where
      row : C → List (ℕ × V)
      row c = listed (test c) (v c) (below n)

      has : (c : C) (x : ℕ) → x < n → Has (row c) x (test c x) (cond (test c x) (v c x) none)
      has c x k = in_range (test c) (v c) 0 n x (omega arith) (omega (arith, k))

      in_row : (c : C) → PlacesBetween 0 n (row c)
      in_row c =
          Each-map (λ p. (0 ≤ p.0) × (p.0 < 0 + n)) (λ x. (x, v c x)) (λ x. (test c x ≡ true) × (x < n))
          (λ x e. (omega arith, omega (arith, e.1))) (filter (test c) (below n)) (filter-range (test c) 0 n n (omega arith))
