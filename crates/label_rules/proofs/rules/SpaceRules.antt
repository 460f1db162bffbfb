-- The rules of the vector and the matrix reducer are sound.
use Rattle.std.specs.Prelude.{◌≡◌, ◌<◌, ◌≤◌, ℕ, suc, ◌+◌, ◌-◌, true, false, List, [], ◌∷◌, length, refl}
use Rattle.std.proofs.Common.{arith, sym, ◌∙◌, ap, subst, length-append}
use Rattle.stream_tokens.specs.declared.Token.{Token}
use Rattle.sam_model.specs.declared.tensors.Entries.{Entries}
use Rattle.sam_model.specs.declared.program.Program.{Program}
use Rattle.sam_model.specs.Program.{accepted}
use Rattle.sam_model.specs.Denote.{Loop}
use Rattle.stream_model.specs.declared.labels.Attr.TheVariants.{Coordinate, Value}
use Rattle.stream_model.specs.declared.labels.Label.{Label}
use Rattle.stream_model.specs.Terms.{TermData}
use Rattle.stream_model.specs.Trees.{kept_sizes}
use Rattle.stream_model.specs.Labels.{reduced_shape, stream_at, label_stream, term_at}
use Rattle.stream_model.specs.Reduction.{Reduces}
use Rattle.graph.specs.declared.graphs.Kind.TheVariants as kind
use Rattle.label_rules.specs.Plans.{free_marks}
use Rattle.label_rules.specs.Storages.{storages_of}
use Rattle.label_rules.proofs.term.Matching.{Matches}
use Rattle.label_rules.proofs.term.Marks.{left-marks, free-marks, counted-marks}
use Rattle.label_rules.proofs.laws.SumVectorLaw.{sum-vector-gives}
use Rattle.label_rules.proofs.laws.SumMatrixLaw.{sum-matrix-gives}
use Rattle.label_rules.specs.Labels.{IsOneOf, PortsAllow}
use Rattle.label_rules.specs.TermLabels.{plan_at, reduced_label, loop_count, coordinate_labels, value_labels, free_loop_count, left_after}
use Rattle.label_rules.specs.Holding.{Shallow, Keeps}
use Rattle.label_rules.proofs.rules.TermRules.{matched, keeps}
use Rattle.label_rules.proofs.rules.SumRule.{long, coordinates-alike, values-alike, two}
use Rattle.label_rules.proofs.rules.Splits.{Split, split}

pub record Three (cs ds es : List (Label)) (ins : List Label) : Type 0 where
  pub a : Label
  pub b : Label
  pub c : Label
  pub are : ins ≡ a ∷ b ∷ c ∷ []
  pub first : IsOneOf a cs
  pub second : IsOneOf b ds
  pub third : IsOneOf c es

pub three_of : (cs ds es ins : List Label) → PortsAllow (cs ∷ ds ∷ es ∷ []) ins → Three cs ds es ins
three_of cs ds es [] x = absurd x
three_of cs ds es (a ∷ []) x = absurd x.1
three_of cs ds es (a ∷ b ∷ []) x = absurd x.1.1
three_of cs ds es (a ∷ b ∷ c ∷ []) x = record { a = a; b = b; c = c; are = refl; first = x.0; second = x.1.0; third = x.1.1.0 }
three_of cs ds es (a ∷ b ∷ c ∷ d ∷ ins) x = absurd x.1.1.1

module _ (p : Program) (es : List Entries) (ok : accepted p ≡ true) (same : length es ≡ length p.tensors) (t : ℕ) (inside : t < length p.terms) where
  abbrev stream : Label → List Token
  stream l = label_stream p es l

  abbrev d_t : TermData
  d_t = term_at p es t

  m : Matches (storages_of p es) d_t (plan_at p t)
  m = matched p es ok same t inside

  module _ (g k : ℕ) (some : g < free_loop_count p t) (follow : left_after g (plan_at p t).on_left ≡ k) where
    r : Split g k d_t.loops
    r =
        split g k d_t.loops
        (let e = ap free_marks m.marks in let f = free-marks d_t.loops in omega (arith, some, e, f))
        (ap (left_after g) (sym m.marks) ∙ follow)

    reduces : Reduces d_t r.before r.size r.after g
    reduces = record { loops_are = r.loops_are; gone = r.gone; few = m.few_loops }

    after_long : length r.after ≡ k + g
    after_long = let c = counted-marks r.after in let l = r.left in let f = r.gone in omega (arith, c, l, f)

    levels_after : length (kept_sizes r.after) ≡ k
    levels_after = sym (left-marks r.after) ∙ r.left

    whole_length : length d_t.loops ≡ length r.before + suc (k + g)
    whole_length =
        let e = ap (λ (ls : List Loop). length ls) r.loops_are in
        let f = length-append r.before ((r.size, false) ∷ r.after) in
        let h = after_long in
        omega (arith, e, f, h)

    levels_are : loop_count p t - g ≡ suc (length r.before) + k
    levels_are = let e = long p es ok same t inside in let f = whole_length in omega (arith, e, f)

    low : length r.before + k ≤ 7
    low = let few = m.few_loops in let e = whole_length in omega (arith, few, e)

  pub vector-keeps : (g : ℕ) (ins outs : List Label) → g < free_loop_count p t → left_after g (plan_at p t).on_left ≡ 1
      → PortsAllow (coordinate_labels p t g (loop_count p t - g) ∷ value_labels p t g ∷ []) ins
      → outs ≡ reduced_label p t (suc g) 9 (loop_count p t - g - 1) Coordinate ∷ reduced_label p t (suc g) 9 (loop_count p t - g - 1) Value ∷ []
      → Keeps (storages_of p es) stream Shallow kind.SumVector ins outs
  vector-keeps g ins outs some follow i o =
      let q = r g 1 some follow in
      let n : ℕ = length q.before in
      let w = whole_length g 1 some follow in
      let lv = levels_are g 1 some follow in
      let short = low g 1 some follow in
      let few = m.few_loops in
      let top : loop_count p t - g ≡ suc (suc n) = omega (arith, lv) in
      let under : loop_count p t - g - 1 ≡ suc n = omega (arith, lv) in
      let x = two p es ok same t inside (coordinate_labels p t g (loop_count p t - g)) (value_labels p t g) ins i in
      let c : stream x.0 ≡ stream_at (reduced_shape d_t g 9 (suc (suc n))) Coordinate =
      coordinates-alike p es ok same t inside g (suc n) x.0 (omega (arith, short)) (omega (arith, w)) (subst (λ (j : ℕ). IsOneOf x.0 (coordinate_labels p t g j)) top x.3) in
      let v : stream x.1 ≡ stream_at (reduced_shape d_t g 9 (suc (suc n))) Value =
      values-alike p es ok same t inside g x.1 x.4 ∙ ap (λ (j : ℕ). stream_at (reduced_shape d_t g 9 j) Value) top in
      keeps p es ok same kind.SumVector ins outs (x.0 ∷ x.1 ∷ [])
      (reduced_label p t (suc g) 9 (suc n) Coordinate ∷ reduced_label p t (suc g) 9 (suc n) Value ∷ []) x.2
      (o ∙ ap (λ (j : ℕ). reduced_label p t (suc g) 9 j Coordinate ∷ reduced_label p t (suc g) 9 j Value ∷ []) under)
      ((omega (arith, short), tt), ((omega (arith, short), tt), tt))
      (rw (c, v) (sum-vector-gives d_t q.before q.size q.after g (reduces g 1 some follow) (levels_after g 1 some follow)))

  pub matrix-keeps : (g : ℕ) (ins outs : List Label) → g < free_loop_count p t → left_after g (plan_at p t).on_left ≡ 2
      → PortsAllow (coordinate_labels p t g (loop_count p t - g - 1) ∷ coordinate_labels p t g (loop_count p t - g) ∷ value_labels p t g ∷ []) ins
      → outs ≡ reduced_label p t (suc g) 9 (loop_count p t - g - 2) Coordinate ∷ reduced_label p t (suc g) 9 (loop_count p t - g - 1) Coordinate
      ∷ reduced_label p t (suc g) 9 (loop_count p t - g - 1) Value ∷ []
      → Keeps (storages_of p es) stream Shallow kind.SumMatrix ins outs
  matrix-keeps g ins outs some follow i o =
      let q = r g 2 some follow in
      let n : ℕ = length q.before in
      let w = whole_length g 2 some follow in
      let lv = levels_are g 2 some follow in
      let short = low g 2 some follow in
      let top : loop_count p t - g ≡ suc (suc (suc n)) = omega (arith, lv) in
      let under : loop_count p t - g - 1 ≡ suc (suc n) = omega (arith, lv) in
      let least : loop_count p t - g - 2 ≡ suc n = omega (arith, lv) in
      let x = three_of (coordinate_labels p t g (loop_count p t - g - 1)) (coordinate_labels p t g (loop_count p t - g)) (value_labels p t g) ins i in
      let b : stream x.a ≡ stream_at (reduced_shape d_t g 9 (suc (suc n))) Coordinate =
      coordinates-alike p es ok same t inside g (suc n) x.a (omega (arith, short)) (omega (arith, w)) (subst (λ (j : ℕ). IsOneOf x.a (coordinate_labels p t g j)) under x.first) in
      let c : stream x.b ≡ stream_at (reduced_shape d_t g 9 (suc (suc (suc n)))) Coordinate =
      coordinates-alike p es ok same t inside g (suc (suc n)) x.b (omega (arith, short)) (omega (arith, w)) (subst (λ (j : ℕ). IsOneOf x.b (coordinate_labels p t g j)) top x.second) in
      let v : stream x.c ≡ stream_at (reduced_shape d_t g 9 (suc (suc (suc n)))) Value =
      values-alike p es ok same t inside g x.c x.third ∙ ap (λ (j : ℕ). stream_at (reduced_shape d_t g 9 j) Value) top in
      keeps p es ok same kind.SumMatrix ins outs (x.a ∷ x.b ∷ x.c ∷ [])
      (reduced_label p t (suc g) 9 (suc n) Coordinate ∷ reduced_label p t (suc g) 9 (suc (suc n)) Coordinate ∷ reduced_label p t (suc g) 9 (suc (suc n)) Value ∷ []) x.are
      (o ∙ ap (λ (j : ℕ). reduced_label p t (suc g) 9 j Coordinate ∷ reduced_label p t (suc g) 9 (loop_count p t - g - 1) Coordinate ∷ reduced_label p t (suc g) 9 (loop_count p t - g - 1) Value ∷ []) least
      ∙ ap (λ (j : ℕ). reduced_label p t (suc g) 9 (suc n) Coordinate ∷ reduced_label p t (suc g) 9 j Coordinate ∷ reduced_label p t (suc g) 9 j Value ∷ []) under)
      ((omega (arith, short), tt), ((omega (arith, short), tt), ((omega (arith, short), tt), tt)))
      (rw (b, c, v) (sum-matrix-gives d_t q.before q.size q.after g (reduces g 2 some follow) (levels_after g 2 some follow)))
