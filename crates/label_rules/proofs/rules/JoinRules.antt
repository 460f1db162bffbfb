-- The rules of unions, sums and differences of terms are sound.
use Rattle.std.specs.Prelude.{◌≡◌, ◌<◌, ◌≤◌, ℕ, zero, suc, ◌-◌, Bool, true, false, cond, List, [], ◌∷◌, length, get_or, eqb, refl}
use mathlib.Core.List.{map}
use Rattle.std.proofs.Common.{arith, sym, ◌∙◌, ap, subst, inl, inr}
use Rattle.std.proofs.lemmas.Bool.Decides.{nat_tests}
use Rattle.std.proofs.lemmas.List.{get_or-map, nil_from_length}
use Rattle.stream_tokens.specs.declared.Token.{Token}
use Rattle.sam_model.specs.declared.tensors.Entries.{Entries}
use Rattle.sam_model.specs.declared.program.Term.{Term}
use Rattle.sam_model.specs.declared.program.Program.{Program}
use Rattle.sam_model.specs.Program.{accepted}
use Rattle.stream_model.specs.declared.labels.Side.{Side}
use Rattle.stream_model.specs.declared.labels.Side.TheVariants.{Left, Right}
use Rattle.stream_model.specs.declared.labels.Tree.{Tree}
use Rattle.stream_model.specs.declared.labels.Tree.TheVariants.{Reduced, Joined}
use Rattle.block_core.specs.Ports.{Streams}
use Rattle.stream_model.specs.declared.labels.Attr.{Attr}
use Rattle.stream_model.specs.declared.labels.Attr.TheVariants.{Coordinate, Value, SideValue, Literal}
use Rattle.stream_model.specs.declared.labels.Label.{Label}
use Rattle.stream_model.specs.Terms.{TermData, Summand, summands, summands_of, summand_at, further_summand, no_summand}
use Rattle.stream_model.specs.Trees.{free_count}
use Rattle.stream_model.specs.Labels.{Shape, result_sizes, reduced_shape, joined_shape, beside_shape, stream_at, label_stream, term_at}
use Rattle.stream_model.proofs.Results.{EachSized, accepted-sized, length-summands}
use Rattle.block_core.specs.Kind.{UnionKind, AluKind}
use Rattle.block_core.specs.Arithmetic.{Plus, Minus}
use Rattle.block_core.proofs.Given.{Gives}
use Rattle.graph.specs.declared.graphs.Kind.TheVariants as kind
use Rattle.label_rules.specs.Plans.{free_marks}
use Rattle.label_rules.specs.Storages.{storages_of}
use Rattle.label_rules.proofs.laws.JoinSides.{SameLevel, right-first, left-first, join-first}
use Rattle.label_rules.proofs.laws.JoinValues.{union-values, sum-gives, difference-gives}
use Rattle.label_rules.proofs.laws.ValueLaws.{same-marks}
use Rattle.label_rules.proofs.laws.UnionLaw.{union-presence}
use Rattle.label_rules.proofs.laws.ItemStreams.{gives-same}
use Rattle.label_rules.proofs.laws.JoinsAlone.{term_alone, joined_alone, first-alone, sum-alone, difference-alone}
use Rattle.label_rules.proofs.rules.SumRule.{two, values-alike}
use Rattle.label_rules.proofs.rules.DropRules.{as_many, free-is, few}
use Rattle.label_rules.specs.Labels.{IsOneOf, PortsAllow, tree_label}
use Rattle.label_rules.specs.TermLabels.{value_labels, free_loop_count, empty_term, plan_at}
use Rattle.label_rules.specs.JoinLabels.{lone_labels, side_tree, beside_attr, joined_attr}
use Rattle.label_rules.specs.Holding.{Shallow, Keeps}
use Rattle.label_rules.proofs.rules.TermRules.{keeps}

-- the signs of the summands are those of the terms, but for the first
sign_of : (p : Program) (es : List Entries) (ts : List Term) (n : ℕ) → 0 < n → n < length ts
    → (summand_at (summands_of p es ts) n).minus ≡ (get_or ts n empty_term).minus
sign_of p es [] n h l = absurd (omega (arith, l))
sign_of p es (t ∷ ts) zero h l = absurd (omega (arith, h))
sign_of p es (t ∷ ts) (suc n) h l = ap (λ (s : Summand). s.minus) (get_or-map (further_summand p es) ts n empty_term no_summand (omega (arith, l)))

pub first_sign : (p : Program) (es : List Entries) (ts : List Term) → 0 < length ts → (summand_at (summands_of p es ts) 0).minus ≡ false
first_sign p es [] l = absurd (omega (arith, l))
first_sign p es (t ∷ ts) l = refl

module _ (p : Program) (es : List Entries) (ok : accepted p ≡ true) (same : length es ≡ length p.tensors) (e : ℕ) (later : 0 < e) (inside : e < length p.terms) where
  abbrev stream : Label → List Token
  stream l = label_stream p es l

  abbrev ss : List Summand
  ss = summands p es

  abbrev sizes : List ℕ
  sizes = result_sizes p

  abbrev beside : Side → ℕ → Shape
  beside side d = beside_shape sizes ss e side d

  many : length ss ≡ length p.terms
  many = length-summands p es p.terms

  there : e < length ss
  there = let n = many in omega (arith, n, inside)

  sized : EachSized sizes ss
  sized = accepted-sized p es ok

  low : length sizes < 9
  low = few p es ok same e inside

  -- on the first level a side's own tree stands for the one beside the join
  abbrev Firsts : Side → Type 0
  Firsts side =
      (stream (tree_label (side_tree p e side 1) Coordinate) ≡ stream_at (beside side 1) Coordinate)
      × (stream (tree_label (side_tree p e side 1) Value) ≡ stream_at (beside side 1) Value)
      × (stream (tree_label (side_tree p e side 1) (Literal 1)) ≡ stream_at (beside side 1) (Literal 1))

  right_firsts : Firsts Right
  right_firsts =
      let t : TermData = term_at p es e in
      let g : free_marks (plan_at p e).on_left ≡ free_count t.loops = free-is p es ok same e inside in
      let x = right-first sizes ss e sized there in
      let f : (a : Attr) → stream (tree_label (side_tree p e Right 1) a) ≡ stream_at (reduced_shape t (free_count t.loops) 1 1) a =
      λ a. ap (λ (n : ℕ). stream_at (reduced_shape t n 1 1) a) g in
      (f Coordinate ∙ x.0, f Value ∙ x.1, f (Literal 1) ∙ same-marks (reduced_shape t (free_count t.loops) 1 1) (beside Right 1) 1 (omega arith) (omega arith) (λ q. refl) (λ q. refl) x.0)

  abbrev FirstsOf : Tree → Type 0
  FirstsOf tree =
      (stream (tree_label tree Coordinate) ≡ stream_at (beside Left 1) Coordinate)
      × (stream (tree_label tree Value) ≡ stream_at (beside Left 1) Value)
      × (stream (tree_label tree (Literal 1)) ≡ stream_at (beside Left 1) (Literal 1))

  left_firsts : FirstsOf (cond (eqb e 1) (Reduced 0 (free_marks (plan_at p 0).on_left) 1 1) (Joined (e - 1) 1))
  left_firsts = by_case (eqb e 1) refl
    where
      first_term : e ≡ 1 → FirstsOf (Reduced 0 (free_marks (plan_at p 0).on_left) 1 1)
      first_term one =
          let t : TermData = term_at p es 0 in
          let n = many in
          let g : free_marks (plan_at p 0).on_left ≡ free_count t.loops = free-is p es ok same 0 (omega (arith, inside)) in
          let y = left-first sizes ss sized (omega (arith, there, one)) (first_sign p es p.terms (omega (arith, inside))) in
          let x : SameLevel (reduced_shape t (free_count t.loops) 1 1) (beside Left 1) =
          subst (λ (k : ℕ). SameLevel (reduced_shape t (free_count t.loops) 1 1) (beside_shape sizes ss k Left 1)) (sym one) y in
          let f : (a : Attr) → stream (tree_label (Reduced 0 (free_marks (plan_at p 0).on_left) 1 1) a) ≡ stream_at (reduced_shape t (free_count t.loops) 1 1) a =
          λ a. ap (λ (k : ℕ). stream_at (reduced_shape t k 1 1) a) g in
          (f Coordinate ∙ x.0, f Value ∙ x.1, f (Literal 1) ∙ same-marks (reduced_shape t (free_count t.loops) 1 1) (beside Left 1) 1 (omega arith) (omega arith) (λ q. refl) (λ q. refl) x.0)

      before : (e ≡ 1 → ⊥) → FirstsOf (Joined (e - 1) 1)
      before more =
          let back : suc (e - 1) ≡ e = omega (arith, later) in
          let y = join-first sizes ss (e - 1) (omega (arith, there, back)) in
          let x : SameLevel (joined_shape sizes ss (e - 1) 1) (beside Left 1) =
          subst (λ (k : ℕ). SameLevel (joined_shape sizes ss (e - 1) 1) (beside_shape sizes ss k Left 1)) back y in
          (x.0, x.1, same-marks (joined_shape sizes ss (e - 1) 1) (beside Left 1) 1 (omega arith) (omega arith) (λ q. refl) (λ q. refl) x.0)

      by_case : (b : Bool) → eqb e 1 ≡ b → FirstsOf (cond b (Reduced 0 (free_marks (plan_at p 0).on_left) 1 1) (Joined (e - 1) 1))
      by_case true k = first_term (grind (arith, nat_tests, k))
      by_case false k = before (λ one. grind (arith, nat_tests, k, one))

  -- ---- unions

  abbrev pub Union : (d : ℕ) → Bool → List Label × List Label
  Union d full = (
    tree_label (side_tree p e Left (suc d)) Coordinate ∷ tree_label (side_tree p e Left (suc d)) (beside_attr full)
        ∷ tree_label (side_tree p e Right (suc d)) Coordinate ∷ tree_label (side_tree p e Right (suc d)) (beside_attr full) ∷ [],
    tree_label (Joined e (suc d)) Coordinate ∷ tree_label (Joined e (suc d)) (joined_attr full Left) ∷ tree_label (Joined e (suc d)) (joined_attr full Right) ∷ [],
  )

  sides_are : (d : ℕ) (full : Bool) → map stream (Union d full).0
      ≡ stream_at (beside Left (suc d)) Coordinate ∷ stream_at (beside Left (suc d)) (beside_attr full)
      ∷ stream_at (beside Right (suc d)) Coordinate ∷ stream_at (beside Right (suc d)) (beside_attr full) ∷ []
  sides_are zero true = let l = left_firsts in let r = right_firsts in rw (l.0, l.1, r.0, r.1) refl
  sides_are zero false = let l = left_firsts in let r = right_firsts in rw (l.0, l.2, r.0, r.2) refl
  sides_are (suc d) full = refl

  united : (d : ℕ) (full : Bool) → eqb (suc d) (length sizes) ≡ full → suc d ≤ 8 → Gives (UnionKind 1 1)
      (stream_at (beside Left (suc d)) Coordinate ∷ stream_at (beside Left (suc d)) (beside_attr full)
      ∷ stream_at (beside Right (suc d)) Coordinate ∷ stream_at (beside Right (suc d)) (beside_attr full) ∷ [])
      (map stream (Union d full).1)
  united d true k low = union-values sizes ss e there (suc d) sized (grind (arith, nat_tests, k)) (omega arith) (omega (arith, low))
  united d false k low = union-presence sizes ss e there (suc d) (omega arith) (omega (arith, low))

  pub union-keeps : (d : ℕ) (full : Bool) (ins outs : List Label) → eqb (suc d) (length sizes) ≡ full → suc d ≤ 8
      → ins ≡ (Union d full).0 → outs ≡ (Union d full).1 → Keeps (storages_of p es) stream Shallow (kind.Union 1 1) ins outs
  union-keeps d full ins outs k short i o =
      keeps p es ok same (kind.Union 1 1) ins outs (Union d full).0 (Union d full).1 i o ((short, tt), ((short, tt), ((short, tt), tt)))
      (subst (λ (ss : Streams). Gives (UnionKind 1 1) ss (map stream (Union d full).1)) (sym (sides_are d full)) (united d full k short))

  -- ---- sums and differences

  pub add-keeps : (ins outs : List Label) → (get_or p.terms e empty_term).minus ≡ false
      → ins ≡ tree_label (Joined e (length sizes)) (SideValue Left) ∷ tree_label (Joined e (length sizes)) (SideValue Right) ∷ []
      → outs ≡ tree_label (Joined e (length sizes)) Value ∷ [] → Keeps (storages_of p es) stream Shallow kind.Add ins outs
  add-keeps ins outs sign i o =
      let short : length sizes ≤ 8 = omega (arith, low) in
      keeps p es ok same kind.Add ins outs _ _ i o ((short, tt), tt)
      (sum-gives sizes ss e there (length sizes) (omega (arith, low)) (sign_of p es p.terms e later inside ∙ sign))

  pub sub-keeps : (ins outs : List Label) → (get_or p.terms e empty_term).minus ≡ true
      → ins ≡ tree_label (Joined e (length sizes)) (SideValue Left) ∷ tree_label (Joined e (length sizes)) (SideValue Right) ∷ []
      → outs ≡ tree_label (Joined e (length sizes)) Value ∷ [] → Keeps (storages_of p es) stream Shallow kind.Sub ins outs
  sub-keeps ins outs sign i o =
      let short : length sizes ≤ 8 = omega (arith, low) in
      keeps p es ok same kind.Sub ins outs _ _ i o ((short, tt), tt)
      (difference-gives sizes ss e there (length sizes) (omega (arith, low)) (sign_of p es p.terms e later inside ∙ sign))

  -- ---- where the result has no level

  module _ (none : length sizes ≡ 0) where
    joined_is : (n : ℕ) → stream (tree_label (Joined n 0) Value) ≡ joined_alone ss n
    joined_is n = ap (λ (xs : List ℕ). stream_at (joined_shape xs ss n 0) Value) (nil_from_length sizes none)

    term_is : (n : ℕ) (l : Label) → n < length p.terms → IsOneOf l (value_labels p n (free_loop_count p n)) → stream l ≡ term_alone (summand_at ss n).term
    term_is n l i x =
        values-alike p es ok same n i (free_loop_count p n) l x
        ∙ ap (λ (k : ℕ). stream_at (reduced_shape (term_at p es n) (free_loop_count p n) 9 k) Value) (as_many p es ok same n i ∙ none)
        ∙ ap (λ (g : ℕ). stream_at (reduced_shape (term_at p es n) g 9 0) Value) (free-is p es ok same n i)

    before_is : (l : Label) → IsOneOf l (lone_labels p e) → stream l ≡ joined_alone ss (e - 1)
    before_is l x = by_case (eqb e 1) refl x
      where
        by_case : (b : Bool) → eqb e 1 ≡ b → IsOneOf l (cond b (value_labels p 0 (free_loop_count p 0)) (tree_label (Joined (e - 1) 0) Value ∷ []))
            → stream l ≡ joined_alone ss (e - 1)
        by_case true k y =
            let one : e ≡ 1 = grind (arith, nat_tests, k) in
            let zero_is : 0 ≡ e - 1 = omega (arith, one) in
            let n = many in
            term_is 0 l (omega (arith, inside)) y
            ∙ first-alone ss (omega (arith, there)) (first_sign p es p.terms (omega (arith, inside)))
            ∙ ap (joined_alone ss) zero_is
        by_case false k (inl y) = ap stream y ∙ joined_is (e - 1)
        by_case false k (inr y) = absurd y

    out_is : stream (tree_label (Joined e (length sizes)) Value) ≡ joined_alone ss e
    out_is = ap (λ (k : ℕ). stream_at (joined_shape sizes ss e k) Value) none ∙ joined_is e

    pub alone-keeps : (ins outs : List Label) → PortsAllow (lone_labels p e ∷ value_labels p e (free_loop_count p e) ∷ []) ins
        → outs ≡ tree_label (Joined e (length sizes)) Value ∷ []
        → ((get_or p.terms e empty_term).minus ≡ false → Keeps (storages_of p es) stream Shallow kind.Add ins outs)
        × ((get_or p.terms e empty_term).minus ≡ true → Keeps (storages_of p es) stream Shallow kind.Sub ins outs)
    alone-keeps ins outs i o =
        let x = two p es ok same e inside (lone_labels p e) (value_labels p e (free_loop_count p e)) ins i in
        let short : length sizes ≤ 8 = omega (arith, low) in
        let a = before_is x.0 x.3 in
        let b = term_is e x.1 inside x.4 in (
          λ sign. keeps p es ok same kind.Add ins outs (x.0 ∷ x.1 ∷ []) _ x.2 o ((short, tt), tt)
              (gives-same (AluKind Plus) _ _ _ _ (rw (a, b) refl) (ap (λ (s : List Token). s ∷ []) (sym out_is))
              (sum-alone ss e later there (sign_of p es p.terms e later inside ∙ sign))),
          λ sign. keeps p es ok same kind.Sub ins outs (x.0 ∷ x.1 ∷ []) _ x.2 o ((short, tt), tt)
              (gives-same (AluKind Minus) _ _ _ _ (rw (a, b) refl) (ap (λ (s : List Token). s ∷ []) (sym out_is))
              (difference-alone ss e later there (sign_of p es p.terms e later inside ∙ sign))),
        )
