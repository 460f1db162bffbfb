-- The rule of a scalar reducer is sound: whichever of their labels stand at its inputs.
use Rattle.std.specs.Prelude.{Option, Some, None, ◌≡◌, ◌<◌, ◌≤◌, ◌⊎◌, ℕ, zero, suc, ◌+◌, ◌-◌, Bool, true, false, cond, ◌||◌, List, [], ◌∷◌, ◌++◌, length, take, eqb, leb, refl}
use Rattle.std.specs.List.{filter, range_with_len}
use mathlib.Core.List.{map}
use Rattle.std.proofs.Common.{arith, sym, ◌∙◌, ap, subst, inl, inr, length-append}
use Rattle.std.proofs.lemmas.Bool.{and_parts, ltb-true, eqb-true}
use Rattle.std.proofs.lemmas.Bool.Decides.{nat_tests}
use Rattle.stream_tokens.specs.declared.Token.{Token}
use Rattle.sam_model.specs.declared.tensors.Entries.{Entries}
use Rattle.sam_model.specs.declared.program.Program.{Program}
use Rattle.sam_model.specs.Program.{accepted}
use Rattle.sam_model.specs.Denote.{Loop}
use Rattle.stream_model.specs.declared.labels.Attr.{Attr}
use Rattle.stream_model.specs.declared.labels.Attr.TheVariants.{Coordinate, FactorValue, Partial, Whole, Value}
use Rattle.stream_model.specs.declared.labels.Label.{Label}
use Rattle.stream_model.specs.Terms.{TermData}
use Rattle.stream_model.specs.Trees.{free_count}
use Rattle.stream_model.specs.Labels.{reduced_shape, stream_at, label_stream, term_at}
use Rattle.stream_model.specs.Masks.{final}
use Rattle.stream_model.specs.Reduction.{Reduces}
use Rattle.block_core.proofs.Given.{Gives}
use Rattle.block_core.specs.Kind.{SumScalarKind}
use Rattle.graph.specs.declared.graphs.Kind.TheVariants as kind
use Rattle.label_rules.specs.Labels.{no_label, IsOneOf, PortsAllow}
use Rattle.label_rules.specs.Plans.{free_marks}
use Rattle.label_rules.specs.Storages.{storages_of}
use Rattle.label_rules.proofs.term.Matching.{Matches, IsCoefficient}
use Rattle.label_rules.proofs.laws.KeptStreams.{values-whole}
use Rattle.label_rules.proofs.laws.ProductTrees.{product_stream}
use Rattle.label_rules.proofs.term.Marks.{marks, free-marks, counted-marks}
use Rattle.label_rules.proofs.laws.SumScalarLaw.{sum-scalar-gives, sum-scalar-root}
use Rattle.label_rules.proofs.laws.ValueLaws.{first-partial, whole-is-partial}
use Rattle.label_rules.specs.Named.{named}
use Rattle.label_rules.specs.TermLabels.{plan_at, factor_count, product_label, reduced_label, bottom_label, full_mask, loop_count, partial_labels, plan_coefficient, kept_numbers, kept_from, same_kept, coordinate_labels, value_labels, left_after, free_loop_count}
use Rattle.label_rules.specs.Rules.{Allowed}
use Rattle.label_rules.specs.Holding.{Shallow, Keeps}
use Rattle.label_rules.proofs.rules.TermRules.{matched, keeps, loops-are, full-is}
use Rattle.label_rules.proofs.rules.Exact.{lists_same}
use Rattle.label_rules.proofs.rules.KeptSame.{kept_at, coordinates-same, coordinates-product}
use Rattle.label_rules.proofs.rules.Splits.{Split, split}

-- ---- one of several labels

one-append : (l : Label) (xs ys : List Label) → IsOneOf l (xs ++ ys) → IsOneOf l xs ⊎ IsOneOf l ys
one-append l [] ys x = inr x
one-append l (k ∷ xs) ys (inl e) = inl (inl e)
one-append l (k ∷ xs) ys (inr x) = by_side (one-append l xs ys x)
  where
    by_side : IsOneOf l xs ⊎ IsOneOf l ys → ((l ≡ k) ⊎ IsOneOf l xs) ⊎ IsOneOf l ys
    by_side (inl y) = inl (inr y)
    by_side (inr y) = inr y

pub one-tested : (f : ℕ → Label) (test : ℕ → Bool) (l : Label) (hs : List ℕ) → IsOneOf l (map f (filter test hs))
    → (h : ℕ) × (l ≡ f h) × (test h ≡ true)
one-tested f test l [] x = absurd x
one-tested f test l (h ∷ hs) x = by_case (test h) refl x (one-tested f test l hs)
  where
    by_case : (b : Bool) → test h ≡ b → IsOneOf l (map f (cond b (h ∷ filter test hs) (filter test hs)))
        → (IsOneOf l (map f (filter test hs)) → (k : ℕ) × (l ≡ f k) × (test k ≡ true)) → (k : ℕ) × (l ≡ f k) × (test k ≡ true)
    by_case true e (inl y) r = (h, y, e)
    by_case true e (inr y) r = r y
    by_case false e y r = r y

module _ (p : Program) (es : List Entries) (ok : accepted p ≡ true) (same : length es ≡ length p.tensors) (t : ℕ) (inside : t < length p.terms) where
  abbrev stream : Label → List Token
  stream l = label_stream p es l

  abbrev d_t : TermData
  d_t = term_at p es t

  m : Matches (storages_of p es) d_t (plan_at p t)
  m = matched p es ok same t inside

  pub long : loop_count p t ≡ length d_t.loops
  long = loops-are p es ok same t inside

  -- the rule counts places as the trees do
  places : (g n : ℕ) (ls : List Loop) → kept_from p t g n (marks ls) ≡ kept_at g n ls
  places g n [] = refl
  places g n (l ∷ ls) =
      let r = places g (suc n) ls in
      let f = free-marks ls in
      ap (λ (k : ℕ). cond (l.1 || leb g k) (n ∷ kept_from p t g (suc n) (marks ls)) (kept_from p t g (suc n) (marks ls))) f
      ∙ ap (λ (xs : List ℕ). cond (l.1 || leb g (free_count ls)) (n ∷ xs) xs) r

  kept-is : (g : ℕ) → kept_numbers p t g ≡ kept_at g 0 d_t.loops
  kept-is g = ap (kept_from p t g 0) m.marks ∙ places g 0 d_t.loops

  kept_alike : (d g h : ℕ) → same_kept p t d g h ≡ true → take d (kept_at g 0 d_t.loops) ≡ take d (kept_at h 0 d_t.loops)
  kept_alike d g h e =
      ap (λ (xs : List ℕ). take d xs) (sym (kept-is g))
      ∙ lists_same (take d (kept_numbers p t g)) (take d (kept_numbers p t h)) e
      ∙ ap (λ (xs : List ℕ). take d xs) (kept-is h)

  -- all labels that the coordinates of a level may have name one stream
  pub coordinates-alike : (g e : ℕ) (l : Label) → suc e < 9 → suc e ≤ length d_t.loops → IsOneOf l (coordinate_labels p t g (suc e))
      → stream l ≡ stream_at (reduced_shape d_t g 9 (suc e)) Coordinate
  coordinates-alike g e l few deep x =
      by_side (one-append l (map (λ h. reduced_label p t h 9 (suc e) Coordinate) (filter (same_kept p t (suc e) g) (range_with_len 1 g)))
      (cond (same_kept p t (suc e) g 0) (product_label p t (suc e) (full_mask p t e) Coordinate ∷ []) []) here)
    where
      one_less : suc e - 1 ≡ e
      one_less = omega arith

      here : IsOneOf l (map (λ h. reduced_label p t h 9 (suc e) Coordinate) (filter (same_kept p t (suc e) g) (range_with_len 1 g))
          ++ cond (same_kept p t (suc e) g 0) (product_label p t (suc e) (full_mask p t e) Coordinate ∷ []) [])
      here =
          subst (λ (k : ℕ). IsOneOf l (map (λ h. reduced_label p t h 9 (suc e) Coordinate) (filter (same_kept p t (suc e) g) (range_with_len 1 g))
          ++ cond (same_kept p t (suc e) g 0) (product_label p t (suc e) (full_mask p t k) Coordinate ∷ []) [])) one_less x

      of_whole : (b : Bool) → same_kept p t (suc e) g 0 ≡ b → IsOneOf l (cond b (product_label p t (suc e) (full_mask p t e) Coordinate ∷ []) [])
          → stream l ≡ stream_at (reduced_shape d_t g 9 (suc e)) Coordinate
      of_whole true k (inl y) =
          ap stream y ∙ full-is p es ok same t inside e Coordinate
          ∙ sym (coordinates-product d_t g (suc e) (kept_alike (suc e) g 0 k) few deep)
      of_whole true k (inr y) = absurd y
      of_whole false k y = absurd y

      by_side : IsOneOf l (map (λ h. reduced_label p t h 9 (suc e) Coordinate) (filter (same_kept p t (suc e) g) (range_with_len 1 g)))
          ⊎ IsOneOf l (cond (same_kept p t (suc e) g 0) (product_label p t (suc e) (full_mask p t e) Coordinate ∷ []) [])
          → stream l ≡ stream_at (reduced_shape d_t g 9 (suc e)) Coordinate
      by_side (inl y) =
          let z = one-tested (λ h. reduced_label p t h 9 (suc e) Coordinate) (same_kept p t (suc e) g) l (range_with_len 1 g) y in
          ap stream z.1 ∙ sym (coordinates-same d_t g z.0 (suc e) (kept_alike (suc e) g z.0 z.2) few)
      by_side (inr y) = of_whole (same_kept p t (suc e) g 0) refl y

  -- ---- values

  last_loop : suc (loop_count p t - 1) ≡ length d_t.loops
  last_loop = let some = m.some_loop in let e = long in omega (arith, some, e)

  pub all-is : (a : Attr) → stream (bottom_label p t a) ≡ product_stream d_t (length d_t.loops) (final d_t (length d_t.loops)) a
  all-is a =
      ap (λ (n : ℕ). stream (product_label p t n (full_mask p t (loop_count p t - 1)) a)) (long ∙ sym last_loop)
      ∙ full-is p es ok same t inside (loop_count p t - 1) a
      ∙ ap (λ (n : ℕ). product_stream d_t n (final d_t n) a) last_loop

  pub coefficient-is : plan_coefficient p t ≡ d_t.coefficient
  coefficient-is = by_case (plan_at p t).coefficient m.coefficient
    where
      by_case : (o : Option ℕ) → IsCoefficient o d_t.coefficient → elim o as (λ _. ℕ) [ None ↦ 1 | Some k ↦ k ] ≡ d_t.coefficient
      by_case None e = sym e
      by_case (Some k) e = e

  -- where no loop is gone and nothing is multiplied, the products of all factors are the values
  plain : (l : Label) → IsOneOf l (cond (eqb (plan_coefficient p t) 1) (partial_labels p t (factor_count p t)) []) → stream l ≡ stream (bottom_label p t Whole)
  plain l x = by_case (eqb (plan_coefficient p t) 1) refl x
    where
      all_factors : factor_count p t ≡ length d_t.accesses
      all_factors = m.number

      partial_is : d_t.coefficient ≡ 1 → stream (bottom_label p t (Partial (factor_count p t))) ≡ stream (bottom_label p t Whole)
      partial_is e =
          ap (λ (n : ℕ). stream (bottom_label p t (Partial n))) all_factors
          ∙ all-is (Partial (length d_t.accesses))
          ∙ whole-is-partial d_t (length d_t.loops) (final d_t (length d_t.loops)) e
          ∙ sym (all-is Whole)

      factor_is : (b : Bool) → eqb (factor_count p t) 1 ≡ b → d_t.coefficient ≡ 1 → IsOneOf l (cond b (bottom_label p t (FactorValue 0) ∷ []) [])
          → stream l ≡ stream (bottom_label p t Whole)
      factor_is true k e (inl y) =
          let one : factor_count p t ≡ 1 = grind (arith, nat_tests, k) in
          ap stream y ∙ all-is (FactorValue 0)
          ∙ first-partial d_t (length d_t.loops) (final d_t (length d_t.loops)) m.some_access
          ∙ sym (all-is (Partial 1))
          ∙ ap (λ (n : ℕ). stream (bottom_label p t (Partial n))) (sym one)
          ∙ partial_is e
      factor_is true k e (inr y) = absurd y
      factor_is false k e y = absurd y

      by_case : (b : Bool) → eqb (plan_coefficient p t) 1 ≡ b → IsOneOf l (cond b (partial_labels p t (factor_count p t)) []) → stream l ≡ stream (bottom_label p t Whole)
      by_case true k (inl y) =
          let one : plan_coefficient p t ≡ 1 = grind (arith, nat_tests, k) in
          ap stream y ∙ partial_is (sym coefficient-is ∙ one)
      by_case true k (inr y) =
          let one : plan_coefficient p t ≡ 1 = grind (arith, nat_tests, k) in
          factor_is (eqb (factor_count p t) 1) refl (sym coefficient-is ∙ one) y
      by_case false k y = absurd y

  pub values-alike : (g : ℕ) (l : Label) → IsOneOf l (value_labels p t g) → stream l ≡ stream_at (reduced_shape d_t g 9 (loop_count p t - g)) Value
  values-alike zero l x =
      by_case x
      ∙ all-is Whole ∙ values-whole d_t m.few_loops
      ∙ ap (λ (n : ℕ). stream_at (reduced_shape d_t 0 9 n) Value) all_loops
    where
      all_loops : length d_t.loops ≡ loop_count p t - 0
      all_loops = let e = long in omega (arith, e)

      by_case : IsOneOf l (value_labels p t 0) → stream l ≡ stream (bottom_label p t Whole)
      by_case (inl e) = ap stream e
      by_case (inr y) = plain l y
  values-alike (suc g) l (inl e) = ap stream e
  values-alike (suc g) l (inr y) = absurd y

  -- ---- the rule

  pub two : (cs ds : List Label) (ins : List Label) → PortsAllow (cs ∷ ds ∷ []) ins
      → (a : Label) × (b : Label) × (ins ≡ a ∷ b ∷ []) × IsOneOf a cs × IsOneOf b ds
  two cs ds [] x = absurd x
  two cs ds (a ∷ []) x = absurd x.1
  two cs ds (a ∷ b ∷ []) x = (a, b, refl, x.0, x.1.0)
  two cs ds (a ∷ b ∷ c ∷ ins) x = absurd x.1.1

  pub sum-keeps : (g : ℕ) (ins outs : List Label) → g < free_loop_count p t → left_after g (plan_at p t).on_left ≡ 0
      → PortsAllow (cond (eqb (loop_count p t - g) 1) (no_label ∷ []) (coordinate_labels p t g (loop_count p t - g - 1)) ∷ value_labels p t g ∷ []) ins
      → outs ≡ reduced_label p t (suc g) 9 (loop_count p t - g - 1) Value ∷ []
      → Keeps (storages_of p es) stream Shallow kind.SumScalar ins outs
  sum-keeps g ins outs some none i o =
      keeps p es ok same kind.SumScalar ins outs (x.0 ∷ x.1 ∷ []) (reduced_label p t (suc g) 9 n Value ∷ []) x.2 o
      ((shallow, tt), tt)
      (subst (λ (s : List Token). Gives SumScalarKind (stream x.0 ∷ s ∷ []) (stream (reduced_label p t (suc g) 9 n Value) ∷ []))
      (sym (values-alike g x.1 x.4 ∙ ap (λ (k : ℕ). stream_at (reduced_shape d_t g 9 k) Value) level_is))
      (subst (λ (k : ℕ). Gives SumScalarKind (stream x.0 ∷ stream_at (reduced_shape d_t g 9 (suc (length r.before))) Value ∷ [])
      (stream_at (reduced_shape d_t (suc g) 9 k) Value ∷ [])) (sym n_is)
      (by_case r.before reduces n_is (subst (λ (k : ℕ). IsOneOf x.0 (cond (eqb k 1) (no_label ∷ []) (coordinate_labels p t g (k - 1)))) level_is x.3))))
    where
      n : ℕ
      n = loop_count p t - g - 1

      x : (a : Label) × (b : Label) × (ins ≡ a ∷ b ∷ []) × IsOneOf a (cond (eqb (loop_count p t - g) 1) (no_label ∷ []) (coordinate_labels p t g (loop_count p t - g - 1)))
          × IsOneOf b (value_labels p t g)
      x = two (cond (eqb (loop_count p t - g) 1) (no_label ∷ []) (coordinate_labels p t g (loop_count p t - g - 1))) (value_labels p t g) ins i

      r : Split g 0 d_t.loops
      r =
          split g 0 d_t.loops
          (let e = ap free_marks m.marks in let f = free-marks d_t.loops in omega (arith, some, e, f))
          (ap (left_after g) (sym m.marks) ∙ none)

      reduces : Reduces d_t r.before r.size r.after g
      reduces = record { loops_are = r.loops_are; gone = r.gone; few = m.few_loops }

      after_long : length r.after ≡ g
      after_long = let c = counted-marks r.after in let l = r.left in let f = r.gone in omega (arith, c, l, f)

      whole_length : length d_t.loops ≡ length r.before + suc g
      whole_length =
          let e = ap (λ (ls : List Loop). length ls) r.loops_are in
          let f = length-append r.before ((r.size, false) ∷ r.after) in
          let h = after_long in
          omega (arith, e, f, h)

      level_is : loop_count p t - g ≡ suc (length r.before)
      level_is = let e = long in let f = whole_length in omega (arith, e, f)

      n_is : n ≡ length r.before
      n_is = let e = level_is in omega (arith, e)

      shallow : n ≤ 8
      shallow = let few = m.few_loops in let e = whole_length in let f = n_is in omega (arith, few, e, f)

      by_case : (before : List Loop) → Reduces d_t before r.size r.after g → n ≡ length before
          → IsOneOf x.0 (cond (eqb (suc (length before)) 1) (no_label ∷ []) (coordinate_labels p t g (suc (length before) - 1)))
          → Gives SumScalarKind (stream x.0 ∷ stream_at (reduced_shape d_t g 9 (suc (length before))) Value ∷ [])
          (stream_at (reduced_shape d_t (suc g) 9 (length before)) Value ∷ [])
      by_case [] q e (inl y) =
          subst (λ (l : Label). Gives SumScalarKind (stream l ∷ stream_at (reduced_shape d_t g 9 1) Value ∷ []) (stream_at (reduced_shape d_t (suc g) 9 0) Value ∷ []))
          (sym y) (sum-scalar-root d_t r.size r.after g q)
      by_case [] q e (inr y) = absurd y
      by_case (b ∷ before) q e y =
          let not_one : eqb (suc (length (b ∷ before))) 1 ≡ false = grind (arith, nat_tests) in
          let less : suc (length (b ∷ before)) - 1 ≡ suc (length before) = omega arith in
          let z : IsOneOf x.0 (coordinate_labels p t g (suc (length before))) =
          subst (λ (k : ℕ). IsOneOf x.0 (coordinate_labels p t g k)) less
          (subst (λ (c : Bool). IsOneOf x.0 (cond c (no_label ∷ []) (coordinate_labels p t g (suc (length (b ∷ before)) - 1)))) not_one y) in
          let total = ap (λ (ls : List Loop). length ls) q.loops_are in
          let parts = length-append (b ∷ before) ((r.size, false) ∷ r.after) in
          let few = m.few_loops in
          subst (λ (s : List Token). Gives SumScalarKind (s ∷ stream_at (reduced_shape d_t g 9 (suc (length (b ∷ before)))) Value ∷ [])
          (stream_at (reduced_shape d_t (suc g) 9 (length (b ∷ before))) Value ∷ []))
          (sym (coordinates-alike g (length before) x.0 (omega (arith, total, parts, few)) (omega (arith, total, parts)) z))
          (sum-scalar-gives d_t (b ∷ before) r.size r.after g q)

-- so is the rule
pub sum-sound : (p : Program) (es : List Entries) → accepted p ≡ true → length es ≡ length p.tensors → (ins outs : List Label)
    → Allowed p kind.SumScalar ins outs → Keeps (storages_of p es) (label_stream p es) Shallow kind.SumScalar ins outs
sum-sound p es ok same ins outs a =
    let x = named 0 ins outs in
    let g = x.gone - 1 in
    let one = and_parts _ _ a.holds in
    let two = and_parts _ _ one.1 in
    let three = and_parts _ _ two.1 in
    sum-keeps p es ok same x.term (ltb-true x.term (length p.terms) one.0) g ins outs (ltb-true g (free_loop_count p x.term) three.0)
    (eqb-true (left_after g (plan_at p x.term).on_left) 0 three.1) a.ins_are a.outs_are
