-- The levels and the values of a program's only term are the result's.
use Rattle.std.specs.Prelude.{◌≡◌, ◌<◌, ◌≤◌, ℕ, zero, suc, ◌+◌, ◌-◌, true, false, cond, List, [], ◌∷◌, length, eqb, ltb, leb, refl}
use Rattle.std.specs.List.{range_with_len}
use mathlib.Core.List.{map}
use Rattle.std.proofs.Common.{arith, sym, ◌∙◌, ap, subst, ◌⊎◌, inl, inr}
use Rattle.std.proofs.lemmas.Bool.{cases_eq}
use Rattle.std.proofs.lemmas.Bool.Decides.{nat_tests}
use Rattle.sam_model.specs.declared.tensors.Entries.{Entries}
use Rattle.sam_model.specs.declared.program.Term.{Term}
use Rattle.sam_model.specs.declared.program.Program.{Program}
use Rattle.sam_model.specs.Program.{accepted}
use Rattle.stream_model.specs.declared.labels.Attr.TheVariants.{Coordinate, Value}
use Rattle.stream_model.specs.declared.labels.Label.{Label}
use Rattle.stream_model.specs.Terms.{TermData, term_data, summands_of, summand_at}
use Rattle.stream_model.specs.Trees.{free_count}
use Rattle.stream_model.specs.Labels.{label_stream, term_at, result_sizes}
use Rattle.block_core.specs.Written.{vals_of}
use Rattle.graph.specs.declared.graphs.Kind.TheVariants as kind
use Rattle.stream_model.specs.declared.labels.Tree.TheVariants.{Joined}
use Rattle.label_rules.specs.Labels.{tree_label, IsOneOf}
use Rattle.label_rules.specs.TermLabels.{plan_at, loop_count, free_loop_count, reduced_label, value_labels}
use Rattle.label_rules.proofs.rules.DropRules.{free-is}
use Rattle.custard_lower.specs.Reductions.{Levels}
use Rattle.custard_lower.proofs.draft.Emitted.{Stands}
use Rattle.custard_lower.proofs.term.PlanFacts.{some-loop, levels-are}
use Rattle.custard_lower.proofs.term.PlainRules.{PlainRules}
use Rattle.custard_lower.proofs.term.PrunedSound.{prune_level}
use Rattle.custard_lower.proofs.term.ReducedSound.{marks-counted}
use Rattle.custard_lower.proofs.term.TermSound.{TermStands}
use Rattle.custard_lower.proofs.written.WrittenEntries.{ListsResult, streams_written}
use Rattle.custard_lower.proofs.written.ResultGraph.{ResultStands}
use Rattle.custard_lower.proofs.written.WrittenTensor.{PrunedInTime, ValuesInTime, pruned_written, written-tensor}

-- from which length on the values of so many levels are pruned; those of a result without levels aren't
abbrev pub values_from : ℕ → ℕ
values_from zero = 9
values_from (suc r) = suc r

values_from_is : (r : ℕ) → values_from r ≡ cond (eqb r 0) 9 r
values_from_is zero = refl
values_from_is (suc r) = let e : eqb (suc r) 0 ≡ false = grind (arith, nat_tests) in ap (λ b. cond b 9 (suc r)) (sym e)

-- a number of a range
pub one-in-range : (f : ℕ → Label) (a n h : ℕ) → a ≤ h → h < a + n → IsOneOf (f h) (map f (range_with_len a n))
one-in-range f a zero h low high = absurd (omega (arith, low, high))
one-in-range f a (suc n) h low high =
    by_place (cases_eq h a) (λ other. one-in-range f (a + 1) n h (omega (arith, low, other)) (omega (arith, high)))
  where
    by_place : (h ≡ a) ⊎ (h ≡ a → ⊥) → ((h ≡ a → ⊥) → IsOneOf (f h) (map f (range_with_len (a + 1) n)))
        → IsOneOf (f h) (map f (range_with_len a (suc n)))
    by_place (inl same) rest = inl (ap f same)
    by_place (inr other) rest = inr (rest other)

-- a level is pruned from a level on that isn't below it
pub low-prune : (e : ℕ) → (0 < prune_level e) × (prune_level e ≤ suc e)
low-prune zero = (omega arith, omega arith)
low-prune (suc e) = (omega arith, omega arith)

module _ (p : Program) (t : Term) (ok : accepted p ≡ true) (only : p.terms ≡ t ∷ []) (inside : 0 < length p.terms) where
  abbrev gone : ℕ
  gone = free_loop_count p 0

  abbrev depth : ℕ
  depth = length (result_sizes p)

  one : eqb (length p.terms) 1 ≡ true
  one = let n = ap (λ (ts : List Term). length ts) only in grind (arith, nat_tests, n)

  abbrev prune : ℕ → ℕ
  prune zero = 0
  prune (suc d) = prune_level d

  abbrev level_label : ℕ → Label
  level_label d = reduced_label p 0 gone (prune d) d Coordinate

  abbrev value_label : ℕ → Label
  value_label r = reduced_label p 0 gone (values_from r) r Value

  -- ---- the writers

  level_written : (d : ℕ) → d < depth → PlainRules p (kind.WriteLevel (suc d)) (level_label (suc d) ∷ []) []
  level_written d l =
      let a : ltb 0 (suc d) ≡ true = grind (arith, nat_tests) in
      let b : leb (suc d) depth ≡ true = grind (arith, nat_tests, l) in
      record {
        allowed = record {
          holds = rw (a, b) refl;
          ins_are = (
            subst (λ c. IsOneOf (level_label (suc d)) (cond c (map (λ f. reduced_label p 0 gone f (suc d) Coordinate) (range_with_len 1 (suc d)))
                (tree_label (Joined (length p.terms - 1) (suc d)) Coordinate ∷ []))) (sym one)
                (one-in-range (λ f. reduced_label p 0 gone f (suc d) Coordinate) 1 (suc d) (prune_level d) (low-prune d).0
                (let q = (low-prune d).1 in omega (arith, q))),
            tt,
          );
          outs_are = refl;
        };
        few = omega arith;
      }

  values_written : PlainRules p kind.WriteValue (value_label depth ∷ []) []
  values_written = record {
    allowed = record {
      holds = refl;
      ins_are = (
        subst (λ c. IsOneOf (value_label depth) (cond c (reduced_label p 0 gone (cond (eqb depth 0) 9 depth) depth Value ∷ [])
            (tree_label (Joined (length p.terms - 1) depth) Value ∷ [])))
            (sym one) (inl (ap (λ (f : ℕ). reduced_label p 0 gone f depth Value) (values_from_is depth))),
        tt,
      );
      outs_are = refl;
    };
    few = omega arith;
  }

  -- without levels all loops are gone
  alone : (l : Label) → depth ≡ 0 → IsOneOf l (value_labels p 0 gone) → l ≡ value_label depth
  alone l none x = by_gone gone refl x
    where
      by_gone : (g : ℕ) → gone ≡ g → IsOneOf l (value_labels p 0 g) → l ≡ value_label depth
      by_gone zero e y =
          let a = some-loop p ok 0 inside in
          let b = marks-counted (plan_at p 0).on_left in
          let c = levels-are p ok 0 inside in
          absurd (omega (arith, a, b, c, e, none))
      by_gone (suc g) e (inl y) =
          let b = marks-counted (plan_at p 0).on_left in
          let c = levels-are p ok 0 inside in
          let left : loop_count p 0 - suc g ≡ 0 = omega (arith, b, c, e, none) in
          y ∙ ap (λ (d : ℕ). reduced_label p 0 (suc g) 9 d Value) left ∙ ap (λ (h : ℕ). reduced_label p 0 h 9 0 Value) (sym e)
          ∙ ap value_label (sym none)
      by_gone (suc g) e (inr y) = absurd y

  -- ---- what is written

  in_time : PrunedInTime depth prune
  in_time zero some most = absurd (omega (arith, some))
  in_time (suc zero) some most = (omega arith, omega arith)
  in_time (suc (suc d)) some most = (omega arith, omega arith)

  values_in_time : ValuesInTime depth (values_from depth)
  values_in_time some = by_depth depth refl
    where
      by_depth : (d : ℕ) → depth ≡ d → (0 < values_from d) × (values_from d ≤ depth)
      by_depth zero e = absurd (omega (arith, e, some))
      by_depth (suc d) e = (omega arith, omega (arith, e))

  lists : (es : List Entries) → length es ≡ length p.tensors
      → ListsResult p es depth (streams_written (λ d. label_stream p es (level_label d)) depth (vals_of (label_stream p es (value_label depth))))
  lists es same =
      let data_is : term_data p es true t ≡ term_at p es 0 = ap (λ (ts : List Term). (summand_at (summands_of p es ts) 0).term) (sym only) in
      subst (λ (g : ℕ). ListsResult p es depth (pruned_written (term_at p es 0) g depth prune (values_from depth)))
      (sym (free-is p es ok same 0 inside))
      (subst (λ (d : TermData). ListsResult p es depth (pruned_written d (free_count d.loops) depth prune (values_from depth))) data_is
      (written-tensor p es t ok same only prune (values_from depth) in_time values_in_time))

  -- the levels and the values of the only term are the result's
  pub only-stands : (l : Levels) → TermStands p ok 0 inside l → ResultStands p (PlainRules p) l
  only-stands l x = record {
    sound = x.sound;
    count = x.count;
    level = level_label;
    values = value_label depth;
    levels_stand = x.coordinates_stand;
    levels_written = level_written;
    values_stand = by_depth depth refl;
    values_written = values_written;
    lists = lists;
  }
    where
      by_depth : (r : ℕ) → depth ≡ r → Stands l.made l.values (value_label depth)
      by_depth zero none = let y = x.value_stands none in subst (Stands l.made l.values) (alone y.0 none y.2) y.1
      by_depth (suc r) some =
          subst (λ (f : ℕ). Stands l.made l.values (reduced_label p 0 gone f depth Value)) (some ∙ sym (ap values_from some))
          (x.values_stand (omega (arith, some)))
