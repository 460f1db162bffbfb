-- The coordinates of a range that pass either of two tests are those that one of two ascending sides has.
use Rattle.std.specs.Prelude.{◌≡◌, ◌⊎◌, ◌<◌, ◌≤◌, ℕ, zero, suc, ◌+◌, Bool, true, false, cond, ◌||◌, List, [], ◌∷◌, ◌++◌, Some, None, is_some, eqb, refl}
use Rattle.std.specs.List.{filter, range_with_len}
use mathlib.Core.List.{map}
use Rattle.std.proofs.Common.{arith, ◌∙◌, ap, inl, inr}
use Rattle.std.proofs.lemmas.Bool.{cases_lt}
use Rattle.std.proofs.lemmas.Bool.Decides.{nat_tests}
use Rattle.std.proofs.lemmas.List.Folds.{list_any-append}
use Rattle.sam_model.specs.Lists.{below}
use Rattle.stream_tokens.specs.Nest.{Leaf}
use Rattle.stream_tokens.proofs.Algebra.{map-map, map-same}
use Rattle.block_core.specs.Merge.{Head, look, head_of, or_none, either, unite, padded}
use Rattle.stream_model.proofs.Numbers.{turned}
use Rattle.sam_model.proofs.Lists.{Each-append, Each-map, Each-range, filter-range, filter-ext-each, map-ext-each}
use Rattle.label_rules.proofs.laws.MetRanges.{head, not-there}
use Rattle.label_rules.proofs.laws.Gathered.{occurs, total_at, gather-range, PlacesBetween}

-- ---- what a side has at a coordinate

-- the heads of the coordinates of a range that pass
abbrev passing : (ℕ → List Leaf) → (ℕ → Bool) → ℕ → ℕ → List Head
passing f P b n = map (head f) (filter P (range_with_len b n))

-- a coordinate of a range is found where it passes
look_range : (f : ℕ → List Leaf) (P : ℕ → Bool) (b n c : ℕ) → b ≤ c → c < b + n
    → look c (passing f P b n) ≡ cond (P c) (Some (f c)) None
look_range f P b zero c h k = absurd (omega (arith, h, k))
look_range f P b (suc n) c h k = by_order (cases_lt b c) (look_range f P (b + 1) n c)
  where
    first : Bool → List Head
    first p = map (head f) (cond p (b ∷ filter P (range_with_len (b + 1) n)) (filter P (range_with_len (b + 1) n)))

    later : (p : Bool) → b < c → look c (first p) ≡ look c (passing f P (b + 1) n)
    later true l = let d : eqb c b ≡ false = grind (arith, nat_tests, l) in rw d refl
    later false l = refl

    here : (p : Bool) → c ≡ b → look c (first p) ≡ cond p (Some (f b)) None
    here true e = let d : eqb c b ≡ true = grind (arith, nat_tests, e) in rw d refl
    here false e = not-there f P c (b + 1) n (omega (arith, e))

    by_order : (b < c) ⊎ (c ≤ b)
        → (b + 1 ≤ c → c < b + 1 + n → look c (passing f P (b + 1) n) ≡ cond (P c) (Some (f c)) None)
        → look c (first (P b)) ≡ cond (P c) (Some (f c)) None
    by_order (inl l) r = later (P b) l ∙ r (omega (arith, l)) (omega (arith, k))
    by_order (inr l) r =
        let e : c ≡ b = omega (arith, h, l) in
        here (P b) e ∙ ap (λ (x : ℕ). cond (P x) (Some (f x)) None) (omega (arith, e))

-- a coordinate occurs on a side where it is found there
occurs_found : (hs : List Head) (c : ℕ) → occurs hs c ≡ is_some (look c hs)
occurs_found [] c = refl
occurs_found (h ∷ hs) c = rw (turned h.0 c) (by_case (eqb c h.0) (occurs_found hs c))
  where
    by_case : (b : Bool) → occurs hs c ≡ is_some (look c hs) → (b || occurs hs c) ≡ is_some (cond b (Some h.1) (look c hs))
    by_case true e = refl
    by_case false e = e

-- and so it occurs in a range where it passes
occurs_range : (f : ℕ → List Leaf) (P : ℕ → Bool) (n c : ℕ) → c < n → occurs (passing f P 0 n) c ≡ P c
occurs_range f P n c h =
    occurs_found (passing f P 0 n) c ∙ ap is_some (look_range f P 0 n c (omega arith) (omega (arith, h))) ∙ by_case (P c)
  where
    by_case : (b : Bool) → is_some (cond b (Some (f c)) None) ≡ b
    by_case true = refl
    by_case false = refl

in_range : (f : ℕ → List Leaf) (P : ℕ → Bool) (n : ℕ) → PlacesBetween 0 n (passing f P 0 n)
in_range f P n =
    Each-map (λ h. (0 ≤ h.0) × (h.0 < 0 + n)) (head f) (λ x. (P x ≡ true) × (x < n))
    (λ x e. (omega arith, omega (arith, e.1))) (filter P (below n)) (filter-range P 0 n n (omega arith))

-- ---- the coordinates of either side

module _ (f g : ℕ → List Leaf) (P Q : ℕ → Bool) (n : ℕ) where
  abbrev left : List Head
  left = passing f P 0 n

  abbrev right : List Head
  right = passing g Q 0 n

  -- those that pass one of the tests
  either_range : either left right ≡ filter (λ c. P c || Q c) (below n)
  either_range =
      ap (map (λ (h : Head). h.0))
      (gather-range (λ a b. a) [] (λ v. refl) 0 n (left ++ right)
      (Each-append (λ h. (0 ≤ h.0) × (h.0 < 0 + n)) left right (in_range f P n) (in_range g Q n)))
      ∙ map-map (λ (h : Head). h.0) (head (total_at (λ a b. a) [] (left ++ right))) (filter (occurs (left ++ right)) (below n))
      ∙ map-same (filter (occurs (left ++ right)) (below n))
      ∙ filter-ext-each (λ c. c < n) (occurs (left ++ right)) (λ c. P c || Q c) both_occur (below n)
      (Each-range 0 n n (omega arith))
    where
      both_occur : (c : ℕ) → c < n → occurs (left ++ right) c ≡ (P c || Q c)
      both_occur c h =
          list_any-append (λ p. eqb p.0 c) left right
          ∙ ap (λ b. b || occurs right c) (occurs_range f P n c h)
          ∙ ap (λ b. P c || b) (occurs_range g Q n c h)

  -- a side's payloads at a coordinate, where it has the coordinate
  abbrev of_left : ℕ → List Leaf
  of_left c = cond (P c) (f c) []

  abbrev of_right : ℕ → List Leaf
  of_right c = cond (Q c) (g c) []

  found : (b : Bool) (ps : List Leaf) → or_none (cond b (Some ps) None) ≡ cond b ps []
  found true ps = refl
  found false ps = refl

  -- the two sides unite to the coordinates that pass one of the tests, with the payloads that they have there
  pub unite-ranges : (l r : ℕ)
      → unite l r (map (head f) (filter P (below n))) (map (head g) (filter Q (below n)))
      ≡ map (head (λ c. padded l (cond (P c) (f c) []) ++ padded r (cond (Q c) (g c) []))) (filter (λ c. P c || Q c) (below n))
  unite-ranges l r =
      ap (map (λ c. head_of l r c (or_none (look c left)) (or_none (look c right)))) either_range
      ∙ map-ext-each (λ c. ((P c || Q c) ≡ true) × (c < n)) (λ c. head_of l r c (or_none (look c left)) (or_none (look c right)))
      (head (λ c. padded l (of_left c) ++ padded r (of_right c))) one (filter (λ c. P c || Q c) (below n))
      (filter-range (λ c. P c || Q c) 0 n n (omega arith))
    where
      one : (c : ℕ) → ((P c || Q c) ≡ true) × (c < n)
          → head_of l r c (or_none (look c left)) (or_none (look c right)) ≡ (c, padded l (of_left c) ++ padded r (of_right c))
      one c e =
          ap (λ (ps : List Leaf). head_of l r c ps (or_none (look c right)))
          (ap or_none (look_range f P 0 n c (omega arith) (omega (arith, e.1))) ∙ found (P c) (f c))
          ∙ ap (head_of l r c (of_left c))
          (ap or_none (look_range g Q 0 n c (omega arith) (omega (arith, e.1))) ∙ found (Q c) (g c))
