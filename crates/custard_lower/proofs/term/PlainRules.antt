-- The rules that a lowered graph keeps to: those of labels, with few payloads at a block; and the blocks of a term's loops by them.
use Rattle.std.specs.Prelude.{◌≡◌, ◌<◌, ◌≤◌, ℕ, suc, ◌-◌, true, false, List, length, eqb, ltb, refl}
use Rattle.std.proofs.Common.{arith, inl}
use Rattle.std.proofs.lemmas.Bool.Decides.{nat_tests}
use Rattle.sam_model.specs.declared.program.Program.{Program}
use Rattle.stream_model.specs.declared.labels.Label.{Label}
use Rattle.stream_model.specs.Masks.{levels_before}
use Rattle.graph.specs.declared.graphs.Kind.{Kind}
use Rattle.graph.specs.Assembly.{payloads_of}
use Rattle.custard_lower.specs.declared.trees.TermTrees.TheVariants.{Own}
use Rattle.label_rules.specs.Plans.{plan_access, PlanIsSmall}
use Rattle.label_rules.specs.TermLabels.{plan_at, loop_count, factor_count, reference_label}
use Rattle.label_rules.specs.Rules.{Allowed}
use Rattle.label_rules.specs.Holding.{Rules}
use Rattle.custard_lower.proofs.draft.Emitted.{is_writer, Unwritten}
use Rattle.custard_lower.proofs.term.TermAllowed.{LevelAllowed}
use Rattle.custard_lower.proofs.term.MetAllowed.{met-allowed}

-- the labels at a block are allowed, and it brings few payloads together
pub record PlainRules (p : Program) (k : Kind) (ins outs : List Label) : Type 0 where
  pub allowed : Allowed p k ins outs
  pub few : payloads_of k ≤ 8

-- and it is no writer
abbrev pub Plain : Program → Rules
Plain p = Unwritten (PlainRules p)

pub plain : (p : Program) (k : Kind) (ins outs : List Label) → payloads_of k ≤ 8 → is_writer k ≡ false → Allowed p k ins outs
    → Plain p k ins outs
plain p k ins outs few quiet a = (record { allowed = a; few = few }, quiet)

module _ (p : Program) (n : ℕ) (inside : n < length p.terms) (small : PlanIsSmall (plan_at p n)) where
  pub level-allowed : (d : ℕ) → d < loop_count p n → LevelAllowed (Plain p) (Own n) (plan_at p n) (reference_label p n d) d
  level-allowed d deep = record {
    scan = λ f l has.
        let a : ltb n (length p.terms) ≡ true = grind (arith, nat_tests, inside) in
        let b : ltb d (loop_count p n) ≡ true = grind (arith, nat_tests, deep) in
        let c : ltb f (factor_count p n) ≡ true = grind (arith, nat_tests, l) in
        let e : eqb (plan_access (plan_at p n) f).tensor (plan_access (plan_at p n) f).tensor ≡ true = grind (arith, nat_tests) in
        let k : eqb (suc (levels_before (plan_access (plan_at p n) f).has d)) (suc (levels_before (plan_access (plan_at p n) f).has d)) ≡ true =
        grind (arith, nat_tests) in
        let back : suc d - 1 ≡ d = omega arith in
        plain p _ _ _ (omega arith) refl
        (record { holds = rw (back, a, b, c, has, e, k) refl; ins_are = rw back (inl refl, tt); outs_are = rw back refl });
    intersect = λ fs f l.
        let many = small.accesses in
        plain p _ _ _ (omega (arith, l, many)) refl (met-allowed p n inside d fs f);
    repeat = λ f l lacks.
        let a : ltb n (length p.terms) ≡ true = grind (arith, nat_tests, inside) in
        let b : ltb d (loop_count p n) ≡ true = grind (arith, nat_tests, deep) in
        let c : ltb f (factor_count p n) ≡ true = grind (arith, nat_tests, l) in
        let back : suc d - 1 ≡ d = omega arith in
        plain p _ _ _ (omega arith) refl
        (record { holds = rw (back, a, b, c, lacks) refl; ins_are = rw back (inl refl, (inl refl, tt)); outs_are = rw back refl });
  }
