-- Sums over variables.
use Rattle.std.specs.Prelude.{◌≡◌, ℕ, Bool, true, false, cond, List, [], ◌∷◌, ◌++◌, slice_index, eqb, refl}
use Rattle.std.proofs.Common.{arith, sym, ◌∙◌, ap, subst}
use Rattle.std.proofs.lemmas.Bool.{or_left, or_right, eqb-true, eq-eqb}
use Rattle.std.proofs.lemmas.Bool.Decides.{nat_tests}
use Rattle.sam_model.specs.Lists.{is_in}
use Rattle.sam_model.specs.Expressions.{Tuple, with_at, Values, sum_first, sum_for, sum_over}
use Rattle.expand.proofs.ValueLaws.{AreLawful, sum-same, sum-scaled, sum-turned, exchanged, turned_times}

-- tuples with the same numbers are equal
pub same-tuple : (s u : Tuple) → ((v : ℕ) → s v ≡ u v) → s ≡ u
same-tuple s u h = λ i v. h v i

twice_at : (b : Bool) (v w x : ℕ) → cond b w (cond b v x) ≡ cond b w x
twice_at true v w x = refl
twice_at false v w x = refl

-- of two numbers for one variable the second stays
with_at-twice : (s : Tuple) (k v w : ℕ) → with_at (with_at s k v) k w ≡ with_at s k w
with_at-twice s k v w = same-tuple (with_at (with_at s k v) k w) (with_at s k w) (λ j. twice_at (eqb j k) v w (s j))

swap_at : (a b : Bool) (v w x : ℕ) → (a ≡ true → b ≡ true → ⊥) → cond b w (cond a v x) ≡ cond a v (cond b w x)
swap_at true true v w x apart = absurd (apart refl refl)
swap_at true false v w x apart = refl
swap_at false b v w x apart = refl

apart_at : (j k l : ℕ) → eqb k l ≡ false → eqb j k ≡ true → eqb j l ≡ true → ⊥
apart_at j k l apart a b = grind (arith, nat_tests)

-- the numbers for two variables, in either order
pub with_at-swap : (s : Tuple) (k l v w : ℕ) → eqb k l ≡ false → with_at (with_at s k v) l w ≡ with_at (with_at s l w) k v
with_at-swap s k l v w apart =
    same-tuple (with_at (with_at s k v) l w) (with_at (with_at s l w) k v)
    (λ j. swap_at (eqb j k) (eqb j l) v w (s j) (apart_at j k l apart))

same_at : (k j : ℕ) (s : Tuple) (b : Bool) → eqb j k ≡ b → cond b (s k) (s j) ≡ s j
same_at k j s true e = ap s (sym (eqb-true j k e))
same_at k j s false e = refl

-- its own number changes nothing
pub with_at-own : (s : Tuple) (k : ℕ) → with_at s k (s k) ≡ s
with_at-own s k = same-tuple (with_at s k (s k)) s (λ j. same_at k j s (eqb j k) refl)

-- the number for k doesn't matter to f
abbrev pub IsFree : {R : Type 0} → ℕ → (Tuple → R) → Type 0
IsFree k f = (s : Tuple) (v : ℕ) → f (with_at s k v) ≡ f s

-- nor do those for any of these variables
abbrev pub AreFree : {R : Type 0} → List ℕ → (Tuple → R) → Type 0
AreFree ks f = (k : ℕ) → is_in k ks ≡ true → IsFree k f

module _ {R : Type 0} (o : Values R) (sizes : List ℕ) where
  pub for-same : (k : ℕ) (f g : Tuple → R) → ((s : Tuple) → f s ≡ g s) → (s : Tuple) → sum_for o sizes k f s ≡ sum_for o sizes k g s
  for-same k f g h s = sum-same o (slice_index sizes k) (λ v. f (with_at s k v)) (λ v. g (with_at s k v)) (λ v. h (with_at s k v))

  pub over-same : (ks : List ℕ) (f g : Tuple → R) → ((s : Tuple) → f s ≡ g s) → (s : Tuple) → sum_over o sizes ks f s ≡ sum_over o sizes ks g s
  over-same [] f g h s = h s
  over-same (k ∷ ks) f g h s = over-same ks (sum_for o sizes k f) (sum_for o sizes k g) (for-same k f g h) s

  -- first the one, then the other variables
  pub over-append : (ks ls : List ℕ) (f : Tuple → R) (s : Tuple) → sum_over o sizes (ks ++ ls) f s ≡ sum_over o sizes ls (sum_over o sizes ks f) s
  over-append [] ls f s = refl
  over-append (k ∷ ks) ls f s = over-append ks ls (sum_for o sizes k f) s

  for_free : (l : ℕ) (f : Tuple → R) (k : ℕ) → IsFree k f → IsFree k (sum_for o sizes l f)
  for_free l f k free s v =
      sum-same o (slice_index sizes l) (λ w. f (with_at (with_at s k v) l w)) (λ w. f (with_at s l w)) (λ w. by_case w (eqb k l) refl)
    where
      by_case : (w : ℕ) (b : Bool) → eqb k l ≡ b → f (with_at (with_at s k v) l w) ≡ f (with_at s l w)
      by_case w true e =
          ap f (subst (λ (x : ℕ). with_at (with_at s k v) x w ≡ with_at s x w) (eqb-true k l e) (with_at-twice s k v w))
      by_case w false e = ap f (with_at-swap s k l v w e) ∙ free (with_at s l w) v

  -- a sum doesn't look at the number for k where its body doesn't
  pub over-free : (ks : List ℕ) (f : Tuple → R) (k : ℕ) → IsFree k f → IsFree k (sum_over o sizes ks f)
  over-free [] f k free s v = free s v
  over-free (l ∷ ks) f k free s v = over-free ks (sum_for o sizes l f) k (for_free l f k free) s v

  module _ (laws : AreLawful o sizes) where
    -- a value that doesn't look at these variables stands before the sum
    pub over-scaled : (ks : List ℕ) (c f : Tuple → R) → AreFree ks c → (s : Tuple)
        → sum_over o sizes ks (λ r. o.mul (c r) (f r)) s ≡ o.mul (c s) (sum_over o sizes ks f s)
    over-scaled [] c f free s = refl
    over-scaled (k ∷ ks) c f free s =
        over-same ks (sum_for o sizes k (λ r. o.mul (c r) (f r))) (λ r. o.mul (c r) (sum_for o sizes k f r)) one s
        ∙ over-scaled ks c (sum_for o sizes k f) (λ l h. free l (or_right (eqb l k) (is_in l ks) h)) s
      where
        one : (r : Tuple) → sum_for o sizes k (λ q. o.mul (c q) (f q)) r ≡ o.mul (c r) (sum_for o sizes k f r)
        one r =
            sum-same o (slice_index sizes k) (λ v. o.mul (c (with_at r k v)) (f (with_at r k v))) (λ v. o.mul (c r) (f (with_at r k v)))
            (λ v. ap (λ a. o.mul a (f (with_at r k v))) (free k (or_left (eqb k k) (is_in k ks) (eq-eqb k k refl)) r v))
            ∙ sum-scaled o sizes laws (c r) (slice_index sizes k) (λ v. f (with_at r k v))

    pub over-turned : (t : ℕ) (ks : List ℕ) (f : Tuple → R) (s : Tuple)
        → sum_over o sizes ks (λ r. turned_times o t (f r)) s ≡ turned_times o t (sum_over o sizes ks f s)
    over-turned t [] f s = refl
    over-turned t (k ∷ ks) f s =
        over-same ks (sum_for o sizes k (λ r. turned_times o t (f r))) (λ r. turned_times o t (sum_for o sizes k f r))
        (λ r. sum-turned o sizes laws t (slice_index sizes k) (λ v. f (with_at r k v))) s
        ∙ over-turned t ks (sum_for o sizes k f) s

    -- a sum of sums over the same variables
    pub over-summed : (n : ℕ) (ks : List ℕ) (f : ℕ → Tuple → R) (s : Tuple)
        → sum_first o n (λ c. sum_over o sizes ks (f c) s) ≡ sum_over o sizes ks (λ r. sum_first o n (λ c. f c r)) s
    over-summed n [] f s = refl
    over-summed n (k ∷ ks) f s =
        over-summed n ks (λ c. sum_for o sizes k (f c)) s
        ∙ over-same ks (λ r. sum_first o n (λ c. sum_for o sizes k (f c) r)) (sum_for o sizes k (λ r. sum_first o n (λ c. f c r)))
        (λ r. exchanged o sizes laws n (slice_index sizes k) (λ c v. f c (with_at r k v))) s

    -- two variables next to one another, in either order
    pub over-swapped : (k l : ℕ) (ks : List ℕ) (f : Tuple → R) (s : Tuple) → eqb k l ≡ false
        → sum_over o sizes (k ∷ l ∷ ks) f s ≡ sum_over o sizes (l ∷ k ∷ ks) f s
    over-swapped k l ks f s apart =
        over-same ks (sum_for o sizes l (sum_for o sizes k f)) (sum_for o sizes k (sum_for o sizes l f)) one s
      where
        one : (r : Tuple) → sum_for o sizes l (sum_for o sizes k f) r ≡ sum_for o sizes k (sum_for o sizes l f) r
        one r =
            exchanged o sizes laws (slice_index sizes l) (slice_index sizes k) (λ w v. f (with_at (with_at r l w) k v))
            ∙ sum-same o (slice_index sizes k) (λ v. sum_first o (slice_index sizes l) (λ w. f (with_at (with_at r l w) k v)))
            (λ v. sum_first o (slice_index sizes l) (λ w. f (with_at (with_at r k v) l w)))
            (λ v. sum-same o (slice_index sizes l) (λ w. f (with_at (with_at r l w) k v)) (λ w. f (with_at (with_at r k v) l w))
            (λ w. ap f (sym (with_at-swap r k l v w apart))))
