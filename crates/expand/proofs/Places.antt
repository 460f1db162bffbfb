-- A term's value at the left is that of its tuples, as the definitions over terms list them.
use Rattle.std.specs.Prelude.{◌≡◌, ◌<◌, ℕ, true, List, [], ◌∷◌, length, eqb, refl}
use Rattle.std.specs.List.{filter}
use mathlib.Core.List.{map}
use Rattle.std.proofs.Common.{arith, sym, ◌∙◌, ap}
use Rattle.std.proofs.lemmas.Bool.{and_parts, or_left, or_right, eqb-true, eq-eqb}
use Rattle.std.proofs.lemmas.List.{length-map}
use Rattle.sam_base.specs.Each.{Each}
use Rattle.sam_model.specs.Lists.{items_at, is_in, coordinate}
use Rattle.sam_model.specs.Accepted.{is_order, ascending}
use Rattle.sam_model.specs.Denote.{fill}
use Rattle.sam_model.specs.Expressions.{Values, at_left}
use Rattle.sam_model.proofs.Lists.{filter-ext}
use Rattle.sam_model.proofs.Orders.{is_in-items, is_in-tested, is_below, filter-members, rises, coordinate-map}
use Rattle.sam_model.specs.Scopes.{are_in_range}
use Rattle.expand.proofs.ValueLaws.{AreLawful, turned_times}
use Rattle.expand.proofs.Counted.{Counted, factors_have}
use Rattle.expand.proofs.Factors.{factors_value, factors-looks}
use Rattle.expand.proofs.Tuples.{gathered, gathered-tuples, loop_of}
use Rattle.expand.proofs.Own.{loops, loops-distinct, own_value}

-- a term has every variable of the left, and all its variables are in range
pub record IsPlaced (count : ℕ) (left : List ℕ) (c : Counted) : Type 0 where
  pub has_left : (v : ℕ) → is_in v left ≡ true → factors_have c.factors v ≡ true
  pub in_range : (v : ℕ) → factors_have c.factors v ≡ true → v < count

each_of : (Q : ℕ → Type 0) (ks : List ℕ) → ((k : ℕ) → is_in k ks ≡ true → Q k) → Each Q ks
each_of Q [] h = tt
each_of Q (k ∷ ks) h =
    (h k (or_left (eqb k k) (is_in k ks) (eq-eqb k k refl)), each_of Q ks (λ j e. h j (or_right (eqb j k) (is_in j ks) e)))

-- a left side in loop order
pub record LeftFits (sizes left order x : List ℕ) : Type 0 where
  pub order_fits : is_order (length left) order ≡ true
  pub in_range : are_in_range (length sizes) left ≡ true
  pub ascends : ascending (items_at left order) ≡ true
  pub long : length x ≡ length left

module _ (sizes left order x : List ℕ) (fit : LeftFits sizes left order x) where
  abbrev in_order : List ℕ
  in_order = items_at left order

  -- the coordinates at the left are x
  back : map (at_left in_order x) in_order ≡ x
  back = coordinate-map 0 in_order x (rises in_order fit.ascends) (fit.long ∙ sym (length-map order _ ∙ eqb-true (length order) (length left) order_long))
    where
      order_long : eqb (length order) (length left) ≡ true
      order_long = (and_parts (eqb (length order) (length left)) _ fit.order_fits).0

  -- the loops of a term that are on the left are those of the left
  lefts : (c : Counted) → IsPlaced (length sizes) left c → filter (λ v. is_in v left) (loops (length sizes) c) ≡ in_order
  lefts c placed =
      filter-ext (λ v. is_in v left) (λ v. is_in v in_order) (λ v. sym (is_in-items left order v fit.order_fits)) (loops (length sizes) c)
      ∙ filter-members (factors_have c.factors) 0 (length sizes) (length sizes) in_order (omega arith) (rises in_order fit.ascends)
      (each_of (λ w. (factors_have c.factors w ≡ true) × (w < length sizes)) in_order
      (λ w h.
      let e : is_in w left ≡ true = sym (is_in-items left order w fit.order_fits) ∙ h in
      (placed.has_left w e, is_below (length sizes) w left fit.in_range e)))

  pub own-tuples : {R : Type 0} (o : Values R) (access : ℕ → List ℕ → R) (laws : AreLawful o sizes) (c : Counted) → IsPlaced (length sizes) left c
      → own_value o sizes access laws left c (at_left in_order x)
      ≡ turned_times o c.minuses (gathered o (λ u. factors_value o access c.factors (coordinate (loops (length sizes) c) u))
      (fill (map (loop_of sizes (λ v. is_in v left)) (loops (length sizes) c)) x))
  own-tuples o access laws c placed =
      ap (turned_times o c.minuses)
      (sym
      (ap (λ (y : List ℕ). gathered o (λ u. factors_value o access c.factors (coordinate (loops (length sizes) c) u))
      (fill (map (loop_of sizes (λ v. is_in v left)) (loops (length sizes) c)) y))
      (sym (ap (map (at_left in_order x)) (lefts c placed) ∙ back))
      ∙ gathered-tuples o sizes laws (λ v. is_in v left) (loops (length sizes) c) (loops-distinct (length sizes) c) (factors_value o access c.factors)
      (λ s u h. factors-looks o access c.factors s u
      (λ v e. h v (is_in-tested (factors_have c.factors) (length sizes) v (placed.in_range v e) ∙ e)))
      (at_left in_order x)))
