-- The rules of a fused graph serve: what they say of labels holds of its whole streams.
use Rattle.std.specs.Prelude.{◌≡◌, ◌<◌, ◌≤◌, ℕ, zero, suc, ◌+◌, ◌-◌, Bool, true, false, cond, List, [], ◌∷◌, ◌++◌, length, take, refl}
use Rattle.std.proofs.Common.{arith, sym, ◌∙◌, ap, subst, length-append, inl}
use Rattle.std.proofs.lemmas.Bool.{and_parts, ltb-true, eqb-true}
use Rattle.std.proofs.lemmas.Bool.Decides.{nat_tests}
use Rattle.std.proofs.lemmas.List.{length-map}
use Rattle.std.specs.Int.Bits.{bit_or}
use Rattle.sam_model.specs.declared.tensors.Entries.{Entries}
use Rattle.sam_model.specs.declared.program.Program.{Program}
use Rattle.sam_model.specs.Program.{accepted}
use Rattle.stream_model.specs.declared.labels.Attr.TheVariants.{Whole}
use Rattle.stream_model.specs.declared.labels.Label.{Label}
use Rattle.stream_model.specs.Fused.{shared_levels}
use Rattle.stream_model.specs.Labels.{label_stream}
use Rattle.stream_model.specs.Masks.{levels_before}
use Rattle.block_core.specs.Kind.{ins_of, outs_of}
use Rattle.graph.specs.declared.graphs.Kind.{Kind}
use Rattle.graph.specs.declared.graphs.Kind.TheVariants as kind
use Rattle.graph.specs.Assembly.{KindInRange}
use Rattle.graph.specs.Meaning.{meaning}
use Rattle.label_rules.specs.Storages.{storages_of}
use Rattle.label_rules.specs.Labels.{PortsAllow, just_these, port_label, same_label}
use Rattle.label_rules.specs.Named.{named, tree_level}
use Rattle.label_rules.specs.Plans.{plan_access}
use Rattle.label_rules.specs.Rules.{Instance}
use Rattle.label_rules.specs.TermLabels.{plan_at, factor_count}
use Rattle.label_rules.proofs.rules.Holding.{rules-hold}
use Rattle.custard_lower.proofs.draft.DraftRuled.{Ends}
use Rattle.custard_lower.proofs.join.PlainServes.{same-copies, number-copies, tensor-there}
use Rattle.custard_lower.proofs.written.ResultGraph.{RulesServe}
use Rattle.custard_fuse.specs.Sharing.{all_factors, across_labels}
use Rattle.custard_fuse.specs.Fusing.{plans_of, is_fused}
use Rattle.custard_fuse.specs.FusedRules.{under_mask, across_upto, under_labels, whole_labels, before_labels, fused_bottom, fused_instance, FusedAllowed, Deep}
use Rattle.custard_fuse.proofs.FusedAllows.{FusedRules}
use Rattle.custard_fuse.proofs.FusedSound.{fused-sound}
use Rattle.custard_fuse.proofs.FusedUnions.{plans-more}
use Rattle.custard_fuse.proofs.SharedWalk.{factors-append, before-count, whole-count}

-- ---- as many labels as ports

ports_filled : (cs : List (List Label)) (ls : List Label) → PortsAllow cs ls → length ls ≡ length cs
ports_filled [] [] x = refl
ports_filled [] (l ∷ ls) x = absurd x
ports_filled (c ∷ cs) [] x = absurd x
ports_filled (c ∷ cs) (l ∷ ls) x = ap suc (ports_filled cs ls x.1)

-- a product has the same ports by both of its rules
either_way : (count : Instance → ℕ) (n : ℕ) (b : Bool) (i j : Instance) → count i ≡ n → count j ≡ n → count (cond b i j) ≡ n
either_way count n true i j x y = x
either_way count n false i j x y = y

module _ (p : Program) (ok : accepted p ≡ true) (fused : is_fused p ≡ true) where
  -- as many as its instance says
  counted : (k : Kind) (ins outs : List Label) → FusedAllowed p k ins outs
      → (length ins ≡ length (fused_instance p k ins outs).ins) × (length outs ≡ length (fused_instance p k ins outs).outs)
  counted k ins outs a = (ports_filled (fused_instance p k ins outs).ins ins a.ins_are, ap (λ (ls : List Label). length ls) a.outs_are)

  side_length : (t level mask : ℕ) (fs : List ℕ) → length (under_labels p t level mask fs) ≡ suc (length fs)
  side_length t level mask fs = ap suc (length-map fs _)

  -- a union of the terms before number e with it
  union_ports : (e d l r : ℕ) (ins outs : List Label) → 0 < e → e < length p.terms → d < shared_levels p
      → l ≡ all_factors (take e (plans_of p)) → r ≡ factor_count p e
      → length ins ≡ length (before_labels p (e - 1) d ++ whole_labels p e d)
      → length outs ≡ length (across_labels e (suc d) (take (suc e) (plans_of p)))
      → (length ins ≡ l + r + 2) × (length outs ≡ l + r + 1)
  union_ports zero d l r ins outs some inside shared l_is r_is i o = absurd (omega (arith, some))
  union_ports (suc e) d l r ins outs some inside shared l_is r_is i o =
      let back : suc e - 1 ≡ e = omega arith in
      let a : length (before_labels p (suc e - 1) d) ≡ suc (all_factors (take (suc e) (plans_of p))) =
      ap (λ (n : ℕ). length (before_labels p n d)) back ∙ before-count p ok fused d shared e (omega (arith, inside)) in
      let b = length-append (before_labels p (suc e - 1) d) (whole_labels p (suc e) d) in
      let c = whole-count p ok fused d shared (suc e) in
      let after = before-count p ok fused d shared (suc e) inside in
      let both = ap all_factors (plans-more p (suc e) inside) ∙ factors-append (take (suc e) (plans_of p)) (plan_at p (suc e) ∷ []) in
      (omega (arith, i, a, b, c, l_is, r_is), omega (arith, o, after, both, l_is, r_is))

  rules_arity : (k : Kind) (ins outs : List Label) → FusedAllowed p k ins outs
      → (length ins ≡ ins_of (meaning [] k)) × (length outs ≡ outs_of (meaning [] k))
  rules_arity kind.Root ins outs a = counted kind.Root ins outs a
  rules_arity (kind.Scan tensor level) ins outs a = counted (kind.Scan tensor level) ins outs a
  rules_arity kind.Repeat ins outs a = counted kind.Repeat ins outs a
  rules_arity (kind.Cast n) ins outs a = ((counted (kind.Cast n) ins outs a).0, eqb-true (length outs) n a.holds)
  rules_arity kind.Drain ins outs a = counted kind.Drain ins outs a
  rules_arity (kind.Intersect l r) ins outs a =
      let x = named l ins outs in
      let d = x.level - 1 in
      let left = under_mask (port_label ins 0).tree in
      let right = under_mask (port_label ins (suc l)).tree in
      let both = and_parts _ _ (and_parts _ _ a.holds).1 in
      let l_is : l ≡ length x.these = eqb-true l (length x.these) both.0 in
      let r_is : r ≡ length x.those = eqb-true r (length x.those) both.1 in
      let first = side_length x.term (suc d) left x.these in
      let second = side_length x.term (suc d) right x.those in
      let sides = under_labels p x.term (suc d) left x.these ++ under_labels p x.term (suc d) right x.those in
      let all = length-append (under_labels p x.term (suc d) left x.these) (under_labels p x.term (suc d) right x.those) in
      let n : length (just_these sides) ≡ length sides = length-map sides (λ k. k ∷ []) in
      let t = counted (kind.Intersect l r) ins outs a in
      let ins_long = t.0 in
      let outs_long = t.1 in
      let joint = length-append x.these x.those in
      let met = side_length x.term (suc d) (bit_or left right) (x.these ++ x.those) in
      (omega (arith, ins_long, n, all, first, second, l_is, r_is), omega (arith, outs_long, met, joint, l_is, r_is))
  rules_arity (kind.Union l r) ins outs a =
      let e = across_upto (port_label outs 0).tree in
      let d = tree_level (port_label outs 0).tree - 1 in
      let one = and_parts _ _ a.holds in
      let further = and_parts _ _ one.0 in
      let two = and_parts _ _ one.1 in
      let three = and_parts _ _ two.1 in
      let t = counted (kind.Union l r) ins outs a in
      let sides = before_labels p (e - 1) d ++ whole_labels p e d in
      let n : length (just_these sides) ≡ length sides = length-map sides (λ k. k ∷ []) in
      union_ports e d l r ins outs (ltb-true 0 e further.0) (ltb-true e (length p.terms) further.1) (ltb-true d (shared_levels p) two.0)
      (eqb-true l (all_factors (take e (plans_of p))) three.0) (eqb-true r (factor_count p e) three.1) (t.0 ∙ n) t.1
  rules_arity (kind.Array tensor) ins outs a = counted (kind.Array tensor) ins outs a
  rules_arity kind.Mul ins outs a =
      let x = named 0 ins outs in
      let b = same_label (port_label outs 0) (fused_bottom p x.term Whole) in
      let t = counted kind.Mul ins outs a in
      (t.0 ∙ either_way (λ i. length i.ins) 2 b _ _ refl refl, t.1 ∙ either_way (λ i. length i.outs) 1 b _ _ refl refl)
  rules_arity kind.Add ins outs a = counted kind.Add ins outs a
  rules_arity kind.Sub ins outs a = counted kind.Sub ins outs a
  rules_arity (kind.Const c) ins outs a = counted (kind.Const c) ins outs a
  rules_arity kind.SumScalar ins outs a = counted kind.SumScalar ins outs a
  rules_arity kind.SumVector ins outs a = let e = a.holds in absurd (cc)
  rules_arity kind.SumMatrix ins outs a = let e = a.holds in absurd (cc)
  rules_arity kind.DropValue ins outs a = counted kind.DropValue ins outs a
  rules_arity kind.DropFiber ins outs a = counted kind.DropFiber ins outs a
  rules_arity (kind.Fill w) ins outs a = let e = a.holds in absurd (cc)
  rules_arity (kind.WriteLevel d) ins outs a = counted (kind.WriteLevel d) ins outs a
  rules_arity kind.WriteValue ins outs a = counted kind.WriteValue ins outs a

  -- ---- drains, casts and tensors

  rules_end : Ends (FusedRules p)
  rules_end zero l = record { allowed = record { holds = refl; ins_are = (inl refl, tt); outs_are = refl }; few = omega arith }
  rules_end (suc k) l =
      let n = number-copies l 0 (suc k) in
      record {
        allowed = record { holds = grind (arith, nat_tests, n); ins_are = (inl refl, tt); outs_are = same-copies l 0 0 (suc k) };
        few = omega arith;
      }

  in_range : (es : List Entries) → length es ≡ length p.tensors → (k : Kind) (ins outs : List Label) → FusedAllowed p k ins outs
      → KindInRange (storages_of p es) k
  in_range es same (kind.Scan tensor level) ins outs a =
      let x = named 0 ins outs in
      let d = x.level - 1 in
      let one = and_parts _ _ a.holds in
      let two = and_parts _ _ one.0 in
      let three = and_parts _ _ one.1 in
      let five = and_parts _ _ (and_parts _ _ three.1).1 in
      let some = eqb-true level (suc (levels_before (plan_access (plan_at p x.term) x.factor).has d)) five.1 in (
        tensor-there p ok es same x.term x.factor tensor (ltb-true x.term (length p.terms) two.0) (ltb-true x.factor (factor_count p x.term) three.0)
            (eqb-true tensor (plan_access (plan_at p x.term) x.factor).tensor five.0),
        subst (λ (i : ℕ). 1 ≤ i) (sym some) (omega arith),
      )
  in_range es same (kind.Array tensor) ins outs a =
      let x = named 0 ins outs in
      let one = and_parts _ _ a.holds in
      let two = and_parts _ _ one.1 in
      tensor-there p ok es same x.term x.factor tensor (ltb-true x.term (length p.terms) one.0) (ltb-true x.factor (factor_count p x.term) two.0)
      (eqb-true tensor (plan_access (plan_at p x.term) x.factor).tensor two.1)
  in_range es same kind.Root ins outs a = tt
  in_range es same kind.Repeat ins outs a = tt
  in_range es same (kind.Cast n) ins outs a = tt
  in_range es same kind.Drain ins outs a = tt
  in_range es same (kind.Intersect l r) ins outs a = tt
  in_range es same (kind.Union l r) ins outs a = tt
  in_range es same kind.Mul ins outs a = tt
  in_range es same kind.Add ins outs a = tt
  in_range es same kind.Sub ins outs a = tt
  in_range es same (kind.Const c) ins outs a = tt
  in_range es same kind.SumScalar ins outs a = tt
  in_range es same kind.SumVector ins outs a = tt
  in_range es same kind.SumMatrix ins outs a = tt
  in_range es same kind.DropValue ins outs a = tt
  in_range es same kind.DropFiber ins outs a = tt
  in_range es same (kind.Fill w) ins outs a = tt
  in_range es same (kind.WriteLevel d) ins outs a = tt
  in_range es same kind.WriteValue ins outs a = tt

  pub fused-serves : RulesServe p Deep (FusedRules p)
  fused-serves = record {
    arity = λ k ins outs h. rules_arity k ins outs h.allowed;
    ends = rules_end;
    in_range = λ es same k ins outs h. in_range es same k ins outs h.allowed;
    few = λ k ins outs h. h.few;
    holds = λ es same g formed met.
        rules-hold (storages_of p es) (label_stream p es) Deep (FusedAllowed p) (fused-sound p ok fused es same) g formed (λ b i. (met b i).allowed);
  }
