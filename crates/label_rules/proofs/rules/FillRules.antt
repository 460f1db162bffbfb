-- The rule of a fill is sound: whichever labels of its side stand at its inputs.
use Rattle.std.specs.Prelude.{◌≡◌, ◌<◌, ◌≤◌, ℕ, zero, suc, ◌+◌, ◌-◌, Bool, true, false, cond, List, [], ◌∷◌, length, eqb, refl}
use Rattle.std.specs.List.{range_with_len}
use mathlib.Core.List.{map}
use Rattle.std.proofs.Common.{arith, sym, ◌∙◌, ap, subst, inl, inr}
use Rattle.std.proofs.lemmas.Bool.Decides.{nat_tests}
use Rattle.stream_tokens.specs.declared.Token.{Token}
use Rattle.sam_model.specs.declared.tensors.Entries.{Entries}
use Rattle.sam_model.specs.declared.program.Program.{Program}
use Rattle.sam_model.specs.Program.{accepted}
use Rattle.stream_model.specs.declared.labels.Side.{Side}
use Rattle.stream_model.specs.declared.labels.Side.TheVariants.{Left, Right}
use Rattle.stream_model.specs.declared.labels.Tree.TheVariants.{Reduced, Joined, Beside}
use Rattle.stream_model.specs.declared.labels.Attr.{Attr}
use Rattle.stream_model.specs.declared.labels.Attr.TheVariants.{Coordinate, Value, Present}
use Rattle.stream_model.specs.declared.labels.Label.{Label}
use Rattle.stream_model.specs.Terms.{Summand, summands}
use Rattle.stream_model.specs.Labels.{result_sizes, reduced_shape, joined_shape, beside_shape, stream_at, label_stream, term_at}
use Rattle.stream_model.proofs.Results.{EachSized, accepted-sized, length-summands}
use Rattle.block_core.specs.Kind.{FillKind}
use Rattle.block_core.proofs.Given.{Gives}
use Rattle.graph.specs.declared.graphs.Kind.TheVariants as kind
use Rattle.label_rules.specs.Plans.{free_marks}
use Rattle.label_rules.specs.Storages.{storages_of}
use Rattle.label_rules.proofs.laws.FillSides.{term_shape, right-fill-coordinates, right-fill-values, first-fill-coordinates, first-fill-values, left-fill-coordinates, left-fill-values}
use Rattle.label_rules.specs.Labels.{tree_label, IsOneOf}
use Rattle.label_rules.specs.TermLabels.{plan_at}
use Rattle.label_rules.specs.JoinLabels.{pruned_labels, own_labels}
use Rattle.label_rules.specs.Holding.{Shallow, Keeps}
use Rattle.label_rules.proofs.rules.TermRules.{keeps}
use Rattle.label_rules.proofs.rules.DropRules.{free-is, few}
use Rattle.label_rules.proofs.rules.JoinRules.{first_sign}

pub one-ranged : (f : ℕ → Label) (l : Label) (a n : ℕ) → IsOneOf l (map f (range_with_len a n)) → (h : ℕ) × (l ≡ f h) × (a ≤ h) × (h < a + n)
one-ranged f l a zero x = absurd x
one-ranged f l a (suc n) (inl e) = (a, e, omega arith, omega arith)
one-ranged f l a (suc n) (inr x) = let r = one-ranged f l (a + 1) n x in let b = r.2 in let c = r.3 in (r.0, r.1, omega (arith, b), omega (arith, c))

module _ (p : Program) (es : List Entries) (ok : accepted p ≡ true) (same : length es ≡ length p.tensors) (e : ℕ) (later : 0 < e) (inside : e < length p.terms)
    (d : ℕ) (some : 0 < d) (above : d < length (result_sizes p)) where
  abbrev stream : Label → List Token
  stream l = label_stream p es l

  abbrev ss : List Summand
  ss = summands p es

  abbrev sizes : List ℕ
  sizes = result_sizes p

  abbrev there : Side → List Token
  there side = stream_at (joined_shape sizes ss e d) (Present side)

  abbrev beside : Side → Attr → List Token
  beside side a = stream_at (beside_shape sizes ss e side (suc d)) a

  in_range : e < length ss
  in_range = let n = length-summands p es p.terms in omega (arith, n, inside)

  sized : EachSized sizes ss
  sized = accepted-sized p es ok

  low : length sizes < 9
  low = few p es ok same e inside

  -- a label of a term's level, pruned from some level on
  abbrev Pruned : ℕ → Label → Attr → Type 0
  Pruned n l a = (f : ℕ) × (stream l ≡ stream_at (term_shape ss n f (suc d)) a) × (0 < f) × (f ≤ suc d)

  pruned_one : (n : ℕ) (l : Label) (a : Attr) → n < length p.terms → IsOneOf l (pruned_labels p n (suc d) a) → Pruned n l a
  pruned_one n l a i x =
      let r = one-ranged (λ f. tree_label (Reduced n (free_marks (plan_at p n).on_left) f (suc d)) a) l 1 (suc d) x in
      let b = r.2 in
      let c = r.3 in (
        r.0,
        ap stream r.1 ∙ ap (λ (g : ℕ). stream_at (reduced_shape (term_at p es n) g r.0 (suc d)) a) (free-is p es ok same n i),
        omega (arith, b),
        omega (arith, c),
      )

  -- ---- coordinates

  coordinates_fill : (side : Side) (l : Label) → IsOneOf l (own_labels p e side (suc d) Coordinate)
      → Gives (FillKind 0) (there side ∷ stream l ∷ []) (beside side Coordinate ∷ [])
  coordinates_fill Right l x =
      let r = pruned_one e l Coordinate inside x in
      subst (λ (s : List Token). Gives (FillKind 0) (there Right ∷ s ∷ []) (beside Right Coordinate ∷ [])) (sym r.1)
      (right-fill-coordinates sizes ss sized d some above low e r.0 in_range r.2 r.3)
  coordinates_fill Left l x = by_case (eqb e 1) refl x
    where
      by_case : (b : Bool) → eqb e 1 ≡ b → IsOneOf l (cond b (pruned_labels p 0 (suc d) Coordinate) (tree_label (Joined (e - 1) (suc d)) Coordinate ∷ []))
          → Gives (FillKind 0) (there Left ∷ stream l ∷ []) (beside Left Coordinate ∷ [])
      by_case true k y =
          let one : e ≡ 1 = grind (arith, nat_tests, k) in
          let r = pruned_one 0 l Coordinate (omega (arith, inside)) y in
          subst (λ (j : ℕ). Gives (FillKind 0) (stream_at (joined_shape sizes ss j d) (Present Left) ∷ stream l ∷ [])
          (stream_at (beside_shape sizes ss j Left (suc d)) Coordinate ∷ [])) (sym one)
          (subst (λ (s : List Token). Gives (FillKind 0) (stream_at (joined_shape sizes ss 1 d) (Present Left) ∷ s ∷ [])
          (stream_at (beside_shape sizes ss 1 Left (suc d)) Coordinate ∷ [])) (sym r.1)
          (first-fill-coordinates sizes ss sized d some above low r.0 (omega (arith, in_range, one))
          (first_sign p es p.terms (omega (arith, inside))) r.2 r.3))
      by_case false k (inl y) =
          let back : suc (e - 1) ≡ e = omega (arith, later) in
          subst (λ (s : List Token). Gives (FillKind 0) (there Left ∷ s ∷ []) (beside Left Coordinate ∷ [])) (sym (ap stream y))
          (subst (λ (j : ℕ). Gives (FillKind 0) (stream_at (joined_shape sizes ss j d) (Present Left)
          ∷ stream_at (joined_shape sizes ss (e - 1) (suc d)) Coordinate ∷ []) (stream_at (beside_shape sizes ss j Left (suc d)) Coordinate ∷ [])) back
          (left-fill-coordinates sizes ss sized d some above low (e - 1) (omega (arith, in_range, back))))
      by_case false k (inr y) = absurd y

  pub fill-keeps : (side : Side) (l : Label) (ins outs : List Label) → IsOneOf l (own_labels p e side (suc d) Coordinate)
      → ins ≡ tree_label (Joined e d) (Present side) ∷ l ∷ [] → outs ≡ tree_label (Beside e side (suc d)) Coordinate ∷ []
      → Keeps (storages_of p es) stream Shallow (kind.Fill 0) ins outs
  fill-keeps side l ins outs x i o =
      keeps p es ok same (kind.Fill 0) ins outs _ _ i o ((omega (arith, above, low), tt), tt) (coordinates_fill side l x)

  -- ---- with values, on the last level

  module _ (full : suc d ≡ length sizes) where
    values_fill : (side : Side) (l v : Label) → IsOneOf l (own_labels p e side (suc d) Coordinate) → IsOneOf v (own_labels p e side (suc d) Value)
        → Gives (FillKind 1) (there side ∷ stream l ∷ stream v ∷ []) (beside side Coordinate ∷ beside side Value ∷ [])
    values_fill Right l v x y =
        let r = pruned_one e l Coordinate inside x in
        let q = pruned_one e v Value inside y in
        subst (λ (s : List Token). Gives (FillKind 1) (there Right ∷ s ∷ stream v ∷ []) (beside Right Coordinate ∷ beside Right Value ∷ [])) (sym r.1)
        (subst (λ (s : List Token). Gives (FillKind 1) (there Right ∷ stream_at (term_shape ss e r.0 (suc d)) Coordinate ∷ s ∷ [])
        (beside Right Coordinate ∷ beside Right Value ∷ [])) (sym q.1)
        (right-fill-values sizes ss sized d some full low e r.0 q.0 in_range r.2 r.3 q.2 q.3))
    values_fill Left l v x y = by_case (eqb e 1) refl x y
      where
        by_case : (b : Bool) → eqb e 1 ≡ b
            → IsOneOf l (cond b (pruned_labels p 0 (suc d) Coordinate) (tree_label (Joined (e - 1) (suc d)) Coordinate ∷ []))
            → IsOneOf v (cond b (pruned_labels p 0 (suc d) Value) (tree_label (Joined (e - 1) (suc d)) Value ∷ []))
            → Gives (FillKind 1) (there Left ∷ stream l ∷ stream v ∷ []) (beside Left Coordinate ∷ beside Left Value ∷ [])
        by_case true k z u =
            let one : e ≡ 1 = grind (arith, nat_tests, k) in
            let r = pruned_one 0 l Coordinate (omega (arith, inside)) z in
            let q = pruned_one 0 v Value (omega (arith, inside)) u in
            subst (λ (j : ℕ). Gives (FillKind 1) (stream_at (joined_shape sizes ss j d) (Present Left) ∷ stream l ∷ stream v ∷ [])
            (stream_at (beside_shape sizes ss j Left (suc d)) Coordinate ∷ stream_at (beside_shape sizes ss j Left (suc d)) Value ∷ [])) (sym one)
            (subst (λ (s : List Token). Gives (FillKind 1) (stream_at (joined_shape sizes ss 1 d) (Present Left) ∷ s ∷ stream v ∷ [])
            (stream_at (beside_shape sizes ss 1 Left (suc d)) Coordinate ∷ stream_at (beside_shape sizes ss 1 Left (suc d)) Value ∷ [])) (sym r.1)
            (subst (λ (s : List Token). Gives (FillKind 1) (stream_at (joined_shape sizes ss 1 d) (Present Left)
            ∷ stream_at (term_shape ss 0 r.0 (suc d)) Coordinate ∷ s ∷ [])
            (stream_at (beside_shape sizes ss 1 Left (suc d)) Coordinate ∷ stream_at (beside_shape sizes ss 1 Left (suc d)) Value ∷ [])) (sym q.1)
            (first-fill-values sizes ss sized d some full low r.0 q.0 (omega (arith, in_range, one))
            (first_sign p es p.terms (omega (arith, inside))) r.2 r.3 q.2 q.3)))
        by_case false k (inl z) (inl u) =
            let back : suc (e - 1) ≡ e = omega (arith, later) in
            subst (λ (s : List Token). Gives (FillKind 1) (there Left ∷ s ∷ stream v ∷ []) (beside Left Coordinate ∷ beside Left Value ∷ [])) (sym (ap stream z))
            (subst (λ (s : List Token). Gives (FillKind 1) (there Left ∷ stream_at (joined_shape sizes ss (e - 1) (suc d)) Coordinate ∷ s ∷ [])
            (beside Left Coordinate ∷ beside Left Value ∷ [])) (sym (ap stream u))
            (subst (λ (j : ℕ). Gives (FillKind 1) (stream_at (joined_shape sizes ss j d) (Present Left)
            ∷ stream_at (joined_shape sizes ss (e - 1) (suc d)) Coordinate ∷ stream_at (joined_shape sizes ss (e - 1) (suc d)) Value ∷ [])
            (stream_at (beside_shape sizes ss j Left (suc d)) Coordinate ∷ stream_at (beside_shape sizes ss j Left (suc d)) Value ∷ [])) back
            (left-fill-values sizes ss sized d some full low (e - 1) (omega (arith, in_range, back)))))
        by_case false k (inl z) (inr u) = absurd u
        by_case false k (inr z) u = absurd z

    pub fill-values-keep : (side : Side) (l v : Label) (ins outs : List Label) → IsOneOf l (own_labels p e side (suc d) Coordinate)
        → IsOneOf v (own_labels p e side (suc d) Value)
        → ins ≡ tree_label (Joined e d) (Present side) ∷ l ∷ v ∷ []
        → outs ≡ tree_label (Beside e side (suc d)) Coordinate ∷ tree_label (Beside e side (suc d)) Value ∷ []
        → Keeps (storages_of p es) stream Shallow (kind.Fill 1) ins outs
    fill-values-keep side l v ins outs x y i o =
        keeps p es ok same (kind.Fill 1) ins outs _ _ i o ((omega (arith, above, low), tt), ((omega (arith, above, low), tt), tt)) (values_fill side l v x y)
