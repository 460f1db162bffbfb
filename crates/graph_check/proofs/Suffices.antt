-- A well formed graph that meets the rules on writers and on labels computes the tensor of its program.
use Rattle.std.specs.Prelude.{◌≡◌, ◌<◌, ◌≤◌, ℕ, zero, suc, ◌+◌, ◌-◌, Bool, true, false, cond, ◌&&◌, Option, Some, None, if◌then◌else◌, List, [], ◌∷◌, length, eqb, ltb, leb, refl}
use Rattle.std.specs.List.{range_with_len}
use mathlib.Core.List.{map}
use Rattle.std.proofs.Common.{arith, sym, ◌∙◌, ap, subst, inl, inr}
use Rattle.std.proofs.lemmas.Bool.{and_parts, eqb-true}
use Rattle.std.proofs.lemmas.Bool.Decides.{nat_tests}
use Rattle.stream_tokens.specs.declared.Token.{Token}
use Rattle.sam_model.specs.declared.tensors.Entries.{Entries}
use Rattle.sam_model.specs.declared.tensors.Written.{Written}
use Rattle.sam_model.specs.declared.program.Term.{Term}
use Rattle.sam_model.specs.declared.program.Program.{Program}
use Rattle.sam_model.specs.Program.{accepted}
use Rattle.sam_model.specs.Children.{Ranked}
use Rattle.stream_model.specs.declared.labels.Tree.{Tree}
use Rattle.stream_model.specs.declared.labels.Tree.TheVariants.{Reduced, Joined}
use Rattle.stream_model.specs.declared.labels.Attr.TheVariants.{Coordinate, Value}
use Rattle.stream_model.specs.declared.labels.Label.{Label}
use Rattle.stream_model.specs.Terms.{TermData, term_data, summands_of, summand_at}
use Rattle.stream_model.specs.Trees.{free_count}
use Rattle.stream_model.specs.Labels.{label_stream, term_at, result_sizes}
use Rattle.block_core.specs.Written.{segs_of, crds_of, vals_of}
use Rattle.graph.specs.declared.graphs.Kind.{Kind}
use Rattle.graph.specs.declared.graphs.Kind.TheVariants.{Scan, Array}
use Rattle.graph.specs.declared.graphs.Graph.{Graph}
use Rattle.graph.specs.Assembly.{KindInRange}
use Rattle.graph.specs.Wiring.{block, WellFormed}
use Rattle.graph.specs.Writers.{writes_level, writes_values, level_stream, written_listing}
use Rattle.label_rules.specs.Storages.{storages_of}
use Rattle.label_rules.specs.Labels.{tree_label, IsOneOf}
use Rattle.label_rules.specs.TermLabels.{free_loop_count, reduced_label}
use Rattle.label_rules.specs.Rules.{Allowed}
use Rattle.label_rules.specs.Holding.{RulesMet, LabelsHold, Shallow}
use Rattle.label_rules.proofs.rules.Exact.{allowed-gives}
use Rattle.label_rules.proofs.rules.Sound.{checked-graph}
use Rattle.label_rules.proofs.rules.DropRules.{free-is}
use Rattle.label_rules.proofs.term.SmallPlans.{some_term}
use Rattle.custard_lower.specs.Lowered.{Carries}
use Rattle.custard_lower.proofs.join.PlainServes.{plain-serves}
use Rattle.custard_lower.proofs.written.WrittenEntries.{ListsResult, streams_written}
use Rattle.custard_lower.proofs.written.WrittenTensor.{PrunedInTime, ValuesInTime, pruned_written, written-tensor}
use Rattle.custard_lower.proofs.written.WrittenJoined.{joined-tensor}
use Rattle.graph_check.specs.Writers.{is_written, all_written, writes_first}
use Rattle.graph_check.specs.Faults.{first_failing, writers_fault, labels_allowed, labels_fault}
use Rattle.graph_check.specs.Laws.{RulesSuffice}
use Rattle.graph_check.proofs.FirstFailing.{passes-before}
use Rattle.graph_check.proofs.WritersTake.{in-range, level_label, value_label, level-takes, value-takes, level-streams, value-streams}

-- ---- what no fault says

some-is : (n : ℕ) → ◌≡◌ {A = Option ℕ} (Some n) None → ⊥
some-is n e = cc

none-there : (b : Bool) (n : ℕ) → ◌≡◌ {A = Option ℕ} (if b then Some n else None) None → b ≡ false
none-there true n e = absurd (some-is n e)
none-there false n e = refl

all-there : (b : Bool) (n : ℕ) → ◌≡◌ {A = Option ℕ} (if b then None else Some n) None → b ≡ true
all-there true n e = refl
all-there false n e = absurd (some-is n e)

module _ (p : Program) (g : Graph) where
  pub labels-met : labels_fault p g ≡ None → RulesMet (Allowed p) g
  labels-met e b i =
      let first : ℕ = first_failing (labels_allowed p g) (length g.blocks) in
      let none : ltb first (length g.blocks) ≡ false = none-there (ltb first (length g.blocks)) first e in
      let far : b < first = grind (arith, nat_tests, none, i) in
      allowed-gives p _ _ _ (passes-before (labels_allowed p g) (length g.blocks) b i far)

  pub writers-there : writers_fault p g ≡ None → all_written (length (result_sizes p)) g ≡ true
  writers-there e =
      let first : ℕ = first_failing (λ b. writes_first (length (result_sizes p)) g b (block g b).kind) (length g.blocks) in
      (and_parts (leb (length g.blocks) first) (all_written (length (result_sizes p)) g)
      (all-there (leb (length g.blocks) first && all_written (length (result_sizes p)) g) first e)).1

-- ---- a label among those that differ in their pruning

abbrev prune_of : Tree → ℕ
prune_of (Reduced t g f d) = f
prune_of other = 0

one-of-range : (label : ℕ → Label) (l : Label) (a n : ℕ) → IsOneOf l (map label (range_with_len a n))
    → (f : ℕ) × (a ≤ f) × (f < a + n) × (l ≡ label f)
one-of-range label l a zero x = absurd x
one-of-range label l a (suc n) (inl e) = (a, omega arith, omega arith, e)
one-of-range label l a (suc n) (inr x) =
    let r = one-of-range label l (a + 1) n x in
    let low = r.1 in let high = r.2 in (r.0, omega (arith, low), omega (arith, high), r.3)

-- one of a choice that lets in a single label
last-one : (b : Bool) (l k : Label) (ls : List Label) → b ≡ false → IsOneOf l (cond b ls (k ∷ [])) → l ≡ k
last-one true l k ls e x = absurd (cc)
last-one false l k ls e (inl x) = x
last-one false l k ls e (inr x) = absurd x

on-range : {A : Type 0} (f h : ℕ → A) (a n : ℕ) → ((k : ℕ) → a ≤ k → k < a + n → f k ≡ h k)
    → map f (range_with_len a n) ≡ map h (range_with_len a n)
on-range f h a zero e = refl
on-range f h a (suc n) e =
    rw (e a (omega arith) (omega arith), on-range f h (a + 1) n (λ k i j. e k (omega (arith, i)) (omega (arith, j)))) refl

module _ (p : Program) (ok : accepted p ≡ true) (g : Graph) (w : WellFormed g) (met : RulesMet (Allowed p) g)
    (written : all_written (length (result_sizes p)) g ≡ true) where
  abbrev depth : ℕ
  depth = length (result_sizes p)

  level_there : (d : ℕ) → 1 ≤ d → d < 1 + depth → is_written (writes_level d) g ≡ true
  level_there d low high = in-range (λ d. is_written (writes_level d) g) 1 depth d (and_parts _ _ written).0 low high

  value_there : is_written writes_values g ≡ true
  value_there = (and_parts _ _ written).1

  module _ (es : List Entries) (same : length es ≡ length p.tensors) where
    abbrev storages : List Ranked
    storages = storages_of p es

    abbrev stream : Label → List Token
    stream l = label_stream p es l

    holds : LabelsHold storages stream Shallow g
    holds = checked-graph p es ok same g w met

    -- where these are the labels at the writers, this is what they leave
    listed : (label : ℕ → Label) (value : Label)
        → ((d : ℕ) → 1 ≤ d → d < 1 + depth → level_label p g w met d ≡ label d) → value_label p g w met ≡ value
        → written_listing storages g depth ≡ streams_written (λ d. stream (label d)) depth (vals_of (stream value))
    listed label value e v =
        let reached = λ (d : ℕ) (low : 1 ≤ d) (high : d < 1 + depth).
        level-streams p g w met storages stream holds.labels d (level_there d low high) ∙ ap stream (e d low high) in
        let segs =
        on-range (λ d. segs_of d (level_stream storages g d)) (λ d. segs_of d (stream (label d))) 1 depth
        (λ d low high. ap (segs_of d) (reached d low high)) in
        let crds =
        on-range (λ d. crds_of (level_stream storages g d)) (λ d. crds_of (stream (label d))) 1 depth
        (λ d low high. ap crds_of (reached d low high)) in
        let vals = value-streams p g w met storages stream holds.labels value_there ∙ ap stream v in
        rw (segs, crds, vals) refl

    -- ---- several terms

    module _ (several : eqb (length p.terms) 1 ≡ false) where
      joined_level : (d : ℕ) → 1 ≤ d → d < 1 + depth → level_label p g w met d ≡ tree_label (Joined (length p.terms - 1) d) Coordinate
      joined_level d low high =
          last-one _ (level_label p g w met d) (tree_label (Joined (length p.terms - 1) d) Coordinate) _ several
          (level-takes p g w met d (level_there d low high))

      joined_value : value_label p g w met ≡ tree_label (Joined (length p.terms - 1) depth) Value
      joined_value =
          last-one _ (value_label p g w met) (tree_label (Joined (length p.terms - 1) depth) Value) _ several
          (value-takes p g w met value_there)

      several-lists : ListsResult p es depth (written_listing storages g depth)
      several-lists =
          let some = some_term p ok in
          subst (λ (x : Written). ListsResult p es depth x)
          (sym (listed (λ d. tree_label (Joined (length p.terms - 1) d) Coordinate) (tree_label (Joined (length p.terms - 1) depth) Value)
          joined_level joined_value))
          (joined-tensor p es (length p.terms - 1) ok same (omega (arith, some)))

    -- ---- one term

    module _ (one : eqb (length p.terms) 1 ≡ true) where
      abbrev gone : ℕ
      gone = free_loop_count p 0

      abbrev prune : ℕ → ℕ
      prune d = prune_of (level_label p g w met d).tree

      abbrev from : ℕ
      from = cond (eqb depth 0) 9 depth

      pruned_there : (d : ℕ) → 1 ≤ d → d < 1 + depth
          → (f : ℕ) × (1 ≤ f) × (f < 1 + d) × (level_label p g w met d ≡ reduced_label p 0 gone f d Coordinate)
      pruned_there d low high =
          one-of-range (λ f. reduced_label p 0 gone f d Coordinate) (level_label p g w met d) 1 d
          (subst (λ b. IsOneOf (level_label p g w met d) (cond b (map (λ f. reduced_label p 0 gone f d Coordinate) (range_with_len 1 d))
          (tree_label (Joined (length p.terms - 1) d) Coordinate ∷ []))) one
          (level-takes p g w met d (level_there d low high)))

      pruned_level : (d : ℕ) → 1 ≤ d → d < 1 + depth → level_label p g w met d ≡ reduced_label p 0 gone (prune d) d Coordinate
      pruned_level d low high =
          let x = pruned_there d low high in
          x.3 ∙ ap (λ (f : ℕ). reduced_label p 0 gone f d Coordinate) (sym (ap (λ (l : Label). prune_of l.tree) x.3))

      pruned_value : value_label p g w met ≡ reduced_label p 0 gone from depth Value
      pruned_value =
          just (value_label p g w met) (reduced_label p 0 gone from depth Value)
          (subst (λ b. IsOneOf (value_label p g w met) (cond b (reduced_label p 0 gone from depth Value ∷ [])
          (tree_label (Joined (length p.terms - 1) depth) Value ∷ []))) one
          (value-takes p g w met value_there))
        where
          just : (l k : Label) → IsOneOf l (k ∷ []) → l ≡ k
          just l k (inl x) = x
          just l k (inr x) = absurd x

      in_time : PrunedInTime depth prune
      in_time d some most =
          let x = pruned_there d (omega (arith, some)) (omega (arith, most)) in
          let is : prune d ≡ x.0 = ap (λ (l : Label). prune_of l.tree) x.3 in
          let low = x.1 in let high = x.2 in
          (omega (arith, is, low), omega (arith, is, high))

      value_in_time : ValuesInTime depth from
      value_in_time some =
          let e : eqb depth 0 ≡ false = grind (arith, nat_tests, some) in
          let is : from ≡ depth = ap (λ (b : Bool). cond b 9 depth) e in
          (omega (arith, is, some), omega (arith, is))

      lone : (ts : List Term) → length ts ≡ 1 → (t : Term) × (ts ≡ t ∷ [])
      lone [] e = absurd (omega (arith, e))
      lone (t ∷ []) e = (t, refl)
      lone (t ∷ u ∷ ts) e = absurd (omega (arith, e))

      one-lists : ListsResult p es depth (written_listing storages g depth)
      one-lists =
          let only = lone p.terms (eqb-true (length p.terms) 1 one) in
          let some = some_term p ok in
          let data_is : term_data p es true only.0 ≡ term_at p es 0 =
          ap (λ (ts : List Term). (summand_at (summands_of p es ts) 0).term) (sym only.1) in
          subst (λ (x : Written). ListsResult p es depth x)
          (sym (listed (λ d. reduced_label p 0 gone (prune d) d Coordinate) (reduced_label p 0 gone from depth Value) pruned_level pruned_value))
          (subst (λ (g : ℕ). ListsResult p es depth (pruned_written (term_at p es 0) g depth prune from))
          (sym (free-is p es ok same 0 (omega (arith, some))))
          (subst (λ (d : TermData). ListsResult p es depth (pruned_written d (free_count d.loops) depth prune from)) data_is
          (written-tensor p es only.0 ok same only.1 prune from in_time value_in_time)))

    -- ---- any program

    lists : ListsResult p es depth (written_listing storages g depth)
    lists = by_case (eqb (length p.terms) 1) refl
      where
        by_case : (b : Bool) → eqb (length p.terms) 1 ≡ b → ListsResult p es depth (written_listing storages g depth)
        by_case true e = one-lists e
        by_case false e = several-lists e

    in_range : (k : Kind) (ins outs : List Label) → Allowed p k ins outs → KindInRange storages k
    in_range (Scan tensor level) ins outs a =
        (plain-serves p ok).in_range es same (Scan tensor level) ins outs (record { allowed = a; few = omega arith })
    in_range (Array tensor) ins outs a =
        (plain-serves p ok).in_range es same (Array tensor) ins outs (record { allowed = a; few = omega arith })
    in_range other ins outs a = tt

    pub carries : Carries p g es
    carries = record {
      in_range = λ b i. in_range _ _ _ (met b i);
      consistent = holds.consistent;
      labels = holds.labels;
      written_in_range = lists.0;
      written_tensor = lists.1;
    }

pub suffices : RulesSuffice
suffices p g ok w writers labels =
    let met = labels-met p g labels in
    record { formed = w; carries = carries p ok g w met (writers-there p g writers) }
