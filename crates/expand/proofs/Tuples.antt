-- A sum over variables gathers the values at the tuples of their loops.
use Rattle.std.specs.Prelude.{◌≡◌, ℕ, zero, suc, ◌+◌, Bool, true, false, cond, not, ◌&&◌, ◌||◌, List, [], ◌∷◌, ◌++◌, slice_index, eqb, refl}
use Rattle.std.specs.List.{filter, flat_map, range_with_len}
use mathlib.Core.List.{map}
use Rattle.std.proofs.Common.{arith, sym, ◌∙◌, ap, ap₂}
use Rattle.std.proofs.lemmas.Bool.{and_parts, or_parts, not-true}
use Rattle.sam_model.specs.Lists.{below, is_in, coordinate}
use Rattle.sam_model.specs.Accepted.{distinct}
use Rattle.sam_model.specs.Denote.{Loop, fill}
use Rattle.sam_model.specs.Expressions.{Tuple, with_at, Values, sum_first, sum_for, sum_over}
use Rattle.sam_model.proofs.Orders.{is_in-filter}
use Rattle.expand.proofs.ValueLaws.{AreLawful, sum-same}
use Rattle.expand.proofs.Over.{with_at-own, over-summed}

module _ {R : Type 0} (o : Values R) where
  -- the sum of f over a list
  abbrev pub gathered : {A : Type 0} → (A → R) → List A → R
  gathered f [] = o.none
  gathered f (x ∷ xs) = o.add (f x) (gathered f xs)

  pub gathered-same : {A : Type 0} (f g : A → R) → ((x : A) → f x ≡ g x) → (xs : List A) → gathered f xs ≡ gathered g xs
  gathered-same f g h [] = refl
  gathered-same f g h (x ∷ xs) = ap₂ o.add (h x) (gathered-same f g h xs)

  gathered_map : {A B : Type 0} (f : B → R) (g : A → B) (xs : List A) → gathered f (map g xs) ≡ gathered (λ x. f (g x)) xs
  gathered_map f g [] = refl
  gathered_map f g (x ∷ xs) = ap (o.add (f (g x))) (gathered_map f g xs)

-- the loop of a variable: its size, and whether it is on the left
abbrev pub loop_of : List ℕ → (ℕ → Bool) → ℕ → Loop
loop_of sizes on_left k = (slice_index sizes k, on_left k)

abbrev pub not_left : (ℕ → Bool) → List ℕ → List ℕ
not_left on_left ks = filter (λ k. not (on_left k)) ks

-- f looks at these variables alone
abbrev pub Looks : {R : Type 0} → List ℕ → (Tuple → R) → Type 0
Looks ks f = (s u : Tuple) → ((v : ℕ) → is_in v ks ≡ true → s v ≡ u v) → f s ≡ f u

module _ {R : Type 0} (o : Values R) (sizes : List ℕ) (laws : AreLawful o sizes) where
  pub gathered-append : {A : Type 0} (f : A → R) (xs ys : List A) → gathered o f (xs ++ ys) ≡ o.add (gathered o f xs) (gathered o f ys)
  gathered-append f [] ys = sym (laws.add_none (gathered o f ys))
  gathered-append f (x ∷ xs) ys = ap (o.add (f x)) (gathered-append f xs ys) ∙ sym (laws.add_assoc (f x) (gathered o f xs) (gathered o f ys))

  gathered_flat : {A B : Type 0} (f : B → R) (g : A → List B) (xs : List A) → gathered o f (flat_map g xs) ≡ gathered o (λ x. gathered o f (g x)) xs
  gathered_flat f g [] = refl
  gathered_flat f g (x ∷ xs) = gathered-append f (g x) (flat_map g xs) ∙ ap (o.add (gathered o f (g x))) (gathered_flat f g xs)

  -- one more at the front of a range
  sum_front : (n : ℕ) (f : ℕ → R) → sum_first o (suc n) f ≡ o.add (f 0) (sum_first o n (λ v. f (suc v)))
  sum_front zero f = laws.add_comm o.none (f 0)
  sum_front (suc n) f =
      ap (λ a. o.add a (f (suc n))) (sum_front n f) ∙ laws.add_assoc (f 0) (sum_first o n (λ v. f (suc v))) (f (suc n))

  gathered_range : (a n : ℕ) (f : ℕ → R) → gathered o f (range_with_len a n) ≡ sum_first o n (λ v. f (v + a))
  gathered_range a zero f = refl
  gathered_range a (suc n) f =
      ap₂ o.add (ap f first) (gathered_range (a + 1) n f ∙ sum-same o n (λ v. f (v + (a + 1))) (λ v. f (suc v + a)) (λ v. ap f (next v)))
      ∙ sym (sum_front n (λ v. f (v + a)))
    where
      first : a ≡ 0 + a
      first = omega arith

      next : (v : ℕ) → v + (a + 1) ≡ suc v + a
      next v = omega arith

  gathered_below : (n : ℕ) (f : ℕ → R) → gathered o f (below n) ≡ sum_first o n f
  gathered_below n f = gathered_range 0 n f ∙ sum-same o n (λ v. f (v + 0)) f (λ v. ap f (plain v))
    where
      plain : (v : ℕ) → v + 0 ≡ v
      plain v = omega arith

  -- sums over other variables, at a tuple that has c for k, look only at such tuples
  over_fixed : (k c : ℕ) (ks : List ℕ) (f g : Tuple → R) → is_in k ks ≡ false → ((s : Tuple) → s k ≡ c → f s ≡ g s) → (s : Tuple) → s k ≡ c
      → sum_over o sizes ks f s ≡ sum_over o sizes ks g s
  over_fixed k c [] f g apart h s e = h s e
  over_fixed k c (l ∷ ks) f g apart h s e =
      let p = or_parts (eqb k l) (is_in k ks) apart in
      over_fixed k c ks (sum_for o sizes l f) (sum_for o sizes l g) p.1
      (λ r er. sum-same o (slice_index sizes l) (λ v. f (with_at r l v)) (λ v. g (with_at r l v))
      (λ v. h (with_at r l v) (ap (λ b. cond b v (r k)) p.0 ∙ er))) s e

  looks_fixed : (k c : ℕ) (ks : List ℕ) (f : Tuple → R) → Looks (k ∷ ks) f → Looks ks (λ r. f (with_at r k c))
  looks_fixed k c ks f looks s u h = looks (with_at s k c) (with_at u k c) (λ v e. by_case v (eqb v k) e)
    where
      by_case : (v : ℕ) (b : Bool) → (b || is_in v ks) ≡ true → cond b c (s v) ≡ cond b c (u v)
      by_case v true e = refl
      by_case v false e = h v e

  module _ (on_left : ℕ → Bool) where
    left_out : (k : ℕ) (ks : List ℕ) → is_in k ks ≡ false → is_in k (not_left on_left ks) ≡ false
    left_out k ks h = is_in-filter (λ j. not (on_left j)) k ks ∙ ap (λ b. b && not (on_left k)) h

    -- the values at the tuples of the loops of these variables, some of which have their numbers in s
    pub gathered-tuples : (ks : List ℕ) → distinct ks ≡ true → (f : Tuple → R) → Looks ks f → (s : Tuple)
        → gathered o (λ u. f (coordinate ks u)) (fill (map (loop_of sizes on_left) ks) (map s (filter on_left ks))) ≡ sum_over o sizes (not_left on_left ks) f s
    gathered-tuples [] once f looks s = laws.none_add (f (coordinate [] [])) ∙ looks (coordinate [] []) s (λ v e. absurd (cc))
    gathered-tuples (k ∷ ks) once f looks s =
        let e = and_parts (not (is_in k ks)) (distinct ks) once in
        by_case (on_left k) (not-true (is_in k ks) e.0)
        (λ c. gathered-tuples ks e.1 (λ r. f (with_at r k c)) (looks_fixed k c ks f looks) s)
      where
        others : List (List ℕ)
        others = fill (map (loop_of sizes on_left) ks) (map s (filter on_left ks))

        by_case : (b : Bool) → is_in k ks ≡ false
            → ((c : ℕ) → gathered o (λ u. f (with_at (coordinate ks u) k c)) others ≡ sum_over o sizes (not_left on_left ks) (λ r. f (with_at r k c)) s)
            → gathered o (λ u. f (coordinate (k ∷ ks) u)) (fill ((slice_index sizes k, b) ∷ map (loop_of sizes on_left) ks) (map s (cond b (k ∷ filter on_left ks) (filter on_left ks))))
            ≡ sum_over o sizes (cond (not b) (k ∷ not_left on_left ks) (not_left on_left ks)) f s
        by_case true apart at =
            gathered_map o (λ u. f (coordinate (k ∷ ks) u)) (λ u. s k ∷ u) others
            ∙ at (s k)
            ∙ over_fixed k (s k) (not_left on_left ks) (λ r. f (with_at r k (s k))) f (left_out k ks apart)
            (λ r e. ap (λ c. f (with_at r k c)) (sym e) ∙ ap f (with_at-own r k)) s refl
        by_case false apart at =
            gathered_flat (λ u. f (coordinate (k ∷ ks) u)) (λ c. map (λ u. c ∷ u) others) (below (slice_index sizes k))
            ∙ gathered_below (slice_index sizes k) (λ c. gathered o (λ u. f (coordinate (k ∷ ks) u)) (map (λ u. c ∷ u) others))
            ∙ sum-same o (slice_index sizes k) (λ c. gathered o (λ u. f (coordinate (k ∷ ks) u)) (map (λ u. c ∷ u) others))
            (λ c. sum_over o sizes (not_left on_left ks) (λ r. f (with_at r k c)) s)
            (λ c. gathered_map o (λ u. f (coordinate (k ∷ ks) u)) (λ u. c ∷ u) others ∙ at c)
            ∙ over-summed o sizes laws (slice_index sizes k) (not_left on_left ks) (λ c r. f (with_at r k c)) s
