-- Capacities, pair by pair.
use Rattle.std.proofs.Common.{◌≡◌, ◌∙◌, ◌++◌, ◌<◌, ◌≤◌, ◌+◌, ℕ, zero, add-one, Bool, true, false, ap, sym, refl, arith, List, [], ◌∷◌, length, take, drop, get_or, set, suc, Some, None}
use Rattle.std.specs.List.{range_with_len}
use Rattle.std.specs.Prelude.{◌==◌, Option, nat_lt, replicate, if◌then◌else◌, ◌≢◌}
use Rattle.std.proofs.lemmas.List.{ext_get_or, get_or-set_same, get_or-set_other, length-set, take_more, drop_all}
use Rattle.std.proofs.Math.Seq.{drop-cons}
use Rattle.sam_model.proofs.Lists.{map-ext}
use Rattle.std.proofs.lemmas.List.FromFn.{length-map-range_with_len, get_or-map-range_with_len}
use Rattle.std.proofs.lemmas.Bool.Decides.{nat_tests}
use mathlib.Core.List.{map}
use Rattle.sam_model.specs.Lists.{below}
use Rattle.runs.specs.Capacities.{capacity_at, unknown_channel}

-- one pair more
pub capacity_more : (all : Option ℕ) (pairs : List (ℕ × ℕ)) (pair : ℕ × ℕ) (c : ℕ)
    → capacity_at all (pairs ++ pair ∷ []) c ≡ (if pair.0 == c then Some pair.1 else capacity_at all pairs c)
capacity_more all [] pair c = refl
capacity_more all (p ∷ pairs) pair c = capacity_more (if p.0 == c then Some p.1 else all) pairs pair c

module _ (f : ℕ → Option ℕ) (n p : ℕ) (v : Option ℕ) where
  abbrev replaced : ℕ → Option ℕ
  replaced c = if p == c then v else f c

  chosen : (i : ℕ) (b : Bool) → (p == i) ≡ b → (if b then v else f i) ≡ replaced i
  chosen i b same = ap (λ (t : Bool). if t then v else f i) (sym same)

  at_place : (i : ℕ) → p < n → i < n → (b : Bool) → (p == i) ≡ b → get_or (set (map f (below n)) p v) i None ≡ replaced i
  at_place i inside within true same =
      let here : i ≡ p = grind (arith, nat_tests, same) in
      let long : p < length (map f (below n)) = grind (arith, length-map-range_with_len f 0 n, inside) in
      ap (λ (k : ℕ). get_or (set (map f (below n)) p v) k None) here
      ∙ get_or-set_same (map f (below n)) p v None long
      ∙ chosen i true same
  at_place i inside within false other =
      let there : i ≢ p = grind (arith, nat_tests, other) in
      get_or-set_other (map f (below n)) p i v None there
      ∙ get_or-map-range_with_len f 0 n i i None within (omega arith)
      ∙ chosen i false other

  -- a capacity that is set
  pub set_replaces : p < n → set (map f (below n)) p v ≡ map replaced (below n)
  set_replaces inside =
      let left : length (set (map f (below n)) p v) ≡ n = length-set (map f (below n)) p v ∙ length-map-range_with_len f 0 n in
      ext_get_or None (set (map f (below n)) p v) (map replaced (below n)) (left ∙ sym (length-map-range_with_len replaced 0 n))
      (λ i within.
      let inner : i < n = grind (arith, left, within) in
      at_place i inside inner (p == i) refl ∙ sym (get_or-map-range_with_len replaced 0 n i i None inner (omega arith)))

-- ---- pair by pair

-- no pair yet
pub unlimited : (all : Option ℕ) (a n : ℕ) → replicate n all ≡ map (capacity_at all []) (range_with_len a n)
unlimited all a zero = refl
unlimited all a (suc n) = ap (λ l. all ∷ l) (unlimited all (a + 1) n)

module _ (all : Option ℕ) (channels : ℕ) (pairs : List (ℕ × ℕ)) (i : ℕ) (d : ℕ × ℕ) (inside : i < length pairs) where
  abbrev pair : ℕ × ℕ
  pair = get_or pairs i d

  -- one pair more
  pub capacities_more : pair.0 < channels
      → set (map (capacity_at all (take i pairs)) (below channels)) pair.0 (Some pair.1)
      ≡ map (capacity_at all (take (i + 1) pairs)) (below channels)
  capacities_more known =
      set_replaces (capacity_at all (take i pairs)) channels pair.0 (Some pair.1) known
      ∙ map-ext (replaced (capacity_at all (take i pairs)) channels pair.0 (Some pair.1)) (capacity_at all (take (i + 1) pairs))
      (λ c. sym (capacity_more all (take i pairs) pair c) ∙ ap (λ (ps : List (ℕ × ℕ)). capacity_at all ps c) (sym (take_more pairs i d inside)))
      (below channels)

  here : (b : Bool) → nat_lt pair.0 channels ≡ b
      → unknown_channel channels (drop i pairs) ≡ (if b then unknown_channel channels (drop (i + 1) pairs) else Some pair.0)
  here b is =
      ap (unknown_channel channels) (drop-cons pairs i d inside)
      ∙ ap (λ (t : Bool). if t then unknown_channel channels (drop (suc i) pairs) else Some pair.0) is
      ∙ ap (λ (k : ℕ). if b then unknown_channel channels (drop k pairs) else Some pair.0) (sym (add-one i))

  -- its channel is known
  pub next_known : pair.0 < channels → unknown_channel channels (drop (i + 1) pairs) ≡ unknown_channel channels (drop i pairs)
  next_known known = sym (here true (grind (arith, nat_tests, known)))

  -- or it isn't
  pub next_unknown : channels ≤ pair.0 → unknown_channel channels (drop i pairs) ≡ Some pair.0
  next_unknown beyond = here false (grind (arith, nat_tests, beyond))

-- all pairs are through
pub all_known : (channels : ℕ) (pairs : List (ℕ × ℕ)) (i : ℕ) → length pairs ≤ i → unknown_channel channels (drop i pairs) ≡ None
all_known channels pairs i long = ap (unknown_channel channels) (drop_all i pairs long)
