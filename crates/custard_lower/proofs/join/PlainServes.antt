-- The rules of a lowered graph serve: what they say of labels holds of its whole streams.
use Rattle.std.specs.Prelude.{◌≡◌, ◌<◌, ◌≤◌, ℕ, zero, suc, ◌-◌, true, List, ◌∷◌, length, refl}
use mathlib.Core.List.{map}
use Rattle.std.proofs.Common.{arith, sym, ap, subst, inl}
use Rattle.std.proofs.lemmas.Bool.{and_parts, ltb-true, eqb-true}
use Rattle.std.proofs.lemmas.Bool.Decides.{nat_tests}
use Rattle.sam_model.specs.declared.tensors.Entries.{Entries}
use Rattle.sam_model.specs.declared.program.Program.{Program}
use Rattle.sam_model.specs.Program.{accepted}
use Rattle.stream_model.specs.declared.labels.Label.{Label}
use Rattle.stream_model.specs.Masks.{levels_before}
use Rattle.block_core.specs.Move.{over}
use Rattle.graph.specs.declared.graphs.Kind.{Kind}
use Rattle.graph.specs.declared.graphs.Kind.TheVariants as kind
use Rattle.graph.specs.Assembly.{KindInRange}
use Rattle.label_rules.specs.Storages.{storages_of}
use Rattle.label_rules.specs.Holding.{Shallow}
use Rattle.label_rules.specs.Named.{named}
use Rattle.label_rules.specs.Plans.{plan_access}
use Rattle.label_rules.specs.TermLabels.{plan_at, factor_count}
use Rattle.label_rules.specs.Rules.{Allowed}
use Rattle.label_rules.proofs.rules.Arity.{rules-arity}
use Rattle.label_rules.proofs.rules.Sound.{checked-graph}
use Rattle.label_rules.proofs.rules.TermRules.{matched}
use Rattle.custard_lower.proofs.draft.DraftRuled.{Ends}
use Rattle.custard_lower.proofs.term.PlainRules.{PlainRules}
use Rattle.custard_lower.proofs.written.ResultGraph.{RulesServe}

-- ---- drains and casts

pub same-copies : (l : Label) (n m k : ℕ) → over (λ _. l) n k ≡ map (λ _. l) (over (λ _. l) m k)
same-copies l n m zero = refl
same-copies l n m (suc k) = ap (λ (ls : List Label). l ∷ ls) (same-copies l (suc n) (suc m) k)

pub number-copies : (l : Label) (n k : ℕ) → length (over (λ _. l) n k) ≡ k
number-copies l n zero = refl
number-copies l n (suc k) = ap suc (number-copies l (suc n) k)

plain_ends : (p : Program) → Ends (PlainRules p)
plain_ends p zero l = record { allowed = record { holds = refl; ins_are = (inl refl, tt); outs_are = refl }; few = omega arith }
plain_ends p (suc k) l =
    let n = number-copies l 0 (suc k) in
    record {
      allowed = record { holds = grind (arith, nat_tests, n); ins_are = (inl refl, tt); outs_are = same-copies l 0 0 (suc k) };
      few = omega arith;
    }

-- ---- tensors

module _ (p : Program) (ok : accepted p ≡ true) (es : List Entries) (same : length es ≡ length p.tensors) where
  pub tensor-there : (t f tensor : ℕ) → t < length p.terms → f < factor_count p t → tensor ≡ (plan_access (plan_at p t) f).tensor
      → tensor < length (storages_of p es)
  tensor-there t f tensor inside less is =
      let m = matched p es ok same t inside in
      let n = m.number in
      subst (λ (x : ℕ). x < length (storages_of p es)) (sym is) (m.there f (omega (arith, less, n)))

  allowed-in-range : (k : Kind) (ins outs : List Label) → Allowed p k ins outs → KindInRange (storages_of p es) k
  allowed-in-range (kind.Scan tensor level) ins outs a =
      let x = named 0 ins outs in
      let one = and_parts _ _ a.holds in
      let two = and_parts _ _ (and_parts _ _ one.1).1 in
      let three = and_parts _ _ (and_parts _ _ two.1).1 in
      let some = eqb-true level (suc (levels_before (plan_access (plan_at p x.term) x.factor).has (x.level - 1))) three.1 in (
        tensor-there x.term x.factor tensor (ltb-true x.term (length p.terms) one.0) (ltb-true x.factor (factor_count p x.term) two.0)
            (eqb-true tensor (plan_access (plan_at p x.term) x.factor).tensor three.0),
        subst (λ (i : ℕ). 1 ≤ i) (sym some) (omega arith),
      )
  allowed-in-range (kind.Array tensor) ins outs a =
      let x = named 0 ins outs in
      let one = and_parts _ _ a.holds in
      let two = and_parts _ _ one.1 in
      tensor-there x.term x.factor tensor (ltb-true x.term (length p.terms) one.0) (ltb-true x.factor (factor_count p x.term) two.0)
      (eqb-true tensor (plan_access (plan_at p x.term) x.factor).tensor two.1)
  allowed-in-range kind.Root ins outs a = tt
  allowed-in-range kind.Repeat ins outs a = tt
  allowed-in-range (kind.Cast n) ins outs a = tt
  allowed-in-range kind.Drain ins outs a = tt
  allowed-in-range (kind.Intersect l r) ins outs a = tt
  allowed-in-range (kind.Union l r) ins outs a = tt
  allowed-in-range kind.Mul ins outs a = tt
  allowed-in-range kind.Add ins outs a = tt
  allowed-in-range kind.Sub ins outs a = tt
  allowed-in-range (kind.Const c) ins outs a = tt
  allowed-in-range kind.SumScalar ins outs a = tt
  allowed-in-range kind.SumVector ins outs a = tt
  allowed-in-range kind.SumMatrix ins outs a = tt
  allowed-in-range kind.DropValue ins outs a = tt
  allowed-in-range kind.DropFiber ins outs a = tt
  allowed-in-range (kind.Fill w) ins outs a = tt
  allowed-in-range (kind.WriteLevel d) ins outs a = tt
  allowed-in-range kind.WriteValue ins outs a = tt

pub plain-serves : (p : Program) → accepted p ≡ true → RulesServe p Shallow (PlainRules p)
plain-serves p ok = record {
  arity = λ k ins outs h. rules-arity p k ins outs h.allowed;
  ends = plain_ends p;
  in_range = λ es same k ins outs h. allowed-in-range p ok es same k ins outs h.allowed;
  few = λ k ins outs h. h.few;
  holds = λ es same g formed met. checked-graph p es ok same g formed (λ b i. (met b i).allowed);
}
