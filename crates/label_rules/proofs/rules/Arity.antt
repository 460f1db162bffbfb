-- What meets a rule has as many labels as its kind has ports.
use Rattle.std.specs.Prelude.{◌+◌, eqb, ◌≡◌, ℕ, suc, Bool, true, false, cond, List, [], ◌∷◌, ◌++◌, length, refl}
use Rattle.std.proofs.Common.{arith, ◌∙◌, ap, length-append}
use Rattle.std.proofs.lemmas.Bool.{and_parts, eqb-true}
use Rattle.std.proofs.lemmas.List.{length-map}
use Rattle.sam_model.specs.declared.program.Program.{Program}
use Rattle.stream_model.specs.declared.labels.Label.{Label}
use Rattle.graph.specs.declared.graphs.Kind.{Kind}
use Rattle.graph.specs.declared.graphs.Kind.TheVariants as kind
use Rattle.stream_model.specs.Labels.{result_sizes}
use Rattle.stream_model.specs.declared.labels.Attr.TheVariants.{Whole, Value}
use Rattle.stream_model.specs.declared.labels.Tree.TheVariants.{Beside}
use Rattle.std.specs.Int.Bits.{bit_or}
use Rattle.label_rules.specs.Labels.{tree_label, PortsAllow, same_label, just_these, port_label}
use Rattle.label_rules.specs.Named.{tree_side, named}
use Rattle.label_rules.specs.TermLabels.{bottom_label, met_labels}
use Rattle.label_rules.specs.JoinLabels.{own_labels}
use Rattle.label_rules.specs.Rules.{Instance, Allowed, instance}
use Rattle.block_core.specs.Kind.{ins_of, outs_of}
use Rattle.graph.specs.Meaning.{meaning}

each_length : (cs : List (List Label)) (ls : List Label) → PortsAllow cs ls → length ls ≡ length cs
each_length [] [] x = refl
each_length [] (l ∷ ls) x = absurd x
each_length (c ∷ cs) [] x = absurd x
each_length (c ∷ cs) (l ∷ ls) x = ap suc (each_length cs ls x.1)

module _ (p : Program) where
  side_length : (t l mask : ℕ) (fs : List ℕ) → length (met_labels p t l mask fs) ≡ suc (length fs)
  side_length t l mask fs = ap suc (length-map fs _)

  -- as many as its instance says
  counted : (k : Kind) (ins outs : List Label) → Allowed p k ins outs
      → (length ins ≡ length (instance p k ins outs).ins) × (length outs ≡ length (instance p k ins outs).outs)
  counted k ins outs a = (each_length (instance p k ins outs).ins ins a.ins_are, ap (λ (ls : List Label). length ls) a.outs_are)

  -- a product has the same ports by both of its rules
  product_ports : (ins outs : List Label) (b : Bool) (i j : Instance)
      → (length ins ≡ length (cond b i j).ins) × (length outs ≡ length (cond b i j).outs)
      → (length i.ins ≡ 2) × (length i.outs ≡ 1) → (length j.ins ≡ 2) × (length j.outs ≡ 1) → (length ins ≡ 2) × (length outs ≡ 1)
  product_ports ins outs true i j t x y = (t.0 ∙ x.0, t.1 ∙ x.1)
  product_ports ins outs false i j t x y = (t.0 ∙ y.0, t.1 ∙ y.1)

  -- a fill has a port more where it has values
  fill_ports : (ins outs : List Label) (w : ℕ) (full : Bool) (c : List Label) (k : Label) → w ≡ cond full 1 0
      → (length ins ≡ suc (suc (length (cond full (c ∷ []) [])))) × (length outs ≡ suc (length (cond full (k ∷ []) [])))
      → (length ins ≡ w + 2) × (length outs ≡ w + 1)
  fill_ports ins outs w true c k e t = let i = t.0 in let o = t.1 in (omega (arith, e, i), omega (arith, e, o))
  fill_ports ins outs w false c k e t = let i = t.0 in let o = t.1 in (omega (arith, e, i), omega (arith, e, o))

  two_added : (b : Bool) (c d x y : List Label) → length (cond b (c ∷ d ∷ []) (x ∷ y ∷ [])) ≡ 2
  two_added true c d x y = refl
  two_added false c d x y = refl

  pub rules-arity : (k : Kind) (ins outs : List Label) → Allowed p k ins outs
      → (length ins ≡ ins_of (meaning [] k)) × (length outs ≡ outs_of (meaning [] k))
  rules-arity kind.Root ins outs a = counted kind.Root ins outs a
  rules-arity (kind.Scan tensor level) ins outs a = counted (kind.Scan tensor level) ins outs a
  rules-arity kind.Repeat ins outs a = counted kind.Repeat ins outs a
  rules-arity (kind.Cast n) ins outs a = ((counted (kind.Cast n) ins outs a).0, eqb-true (length outs) n a.holds)
  rules-arity kind.Drain ins outs a = counted kind.Drain ins outs a
  rules-arity (kind.Intersect l r) ins outs a =
      let x = named l ins outs in
      let both = and_parts _ _ (and_parts _ _ a.holds).1 in
      let l_is : l ≡ length x.these = eqb-true l (length x.these) both.0 in
      let r_is : r ≡ length x.those = eqb-true r (length x.those) both.1 in
      let first = side_length x.term x.level x.left x.these in
      let second = side_length x.term x.level x.right x.those in
      let all = length-append (met_labels p x.term x.level x.left x.these) (met_labels p x.term x.level x.right x.those) in
      let n : length (just_these (met_labels p x.term x.level x.left x.these ++ met_labels p x.term x.level x.right x.those))
      ≡ length (met_labels p x.term x.level x.left x.these ++ met_labels p x.term x.level x.right x.those) =
      length-map (met_labels p x.term x.level x.left x.these ++ met_labels p x.term x.level x.right x.those) (λ k. k ∷ []) in
      let t = counted (kind.Intersect l r) ins outs a in
      let ins_long = t.0 in
      let outs_long = t.1 in
      let joint = length-append x.these x.those in
      let met = side_length x.term x.level (bit_or x.left x.right) (x.these ++ x.those) in
      (omega (arith, ins_long, n, all, first, second, l_is, r_is), omega (arith, outs_long, met, joint, l_is, r_is))
  rules-arity (kind.Union l r) ins outs a =
      let first = and_parts _ _ a.holds in
      let l_is : l ≡ 1 = eqb-true l 1 first.0 in
      let r_is : r ≡ 1 = eqb-true r 1 (and_parts _ _ first.1).0 in
      let t = counted (kind.Union l r) ins outs a in
      let ins_long : length ins ≡ 4 = t.0 in
      let outs_long : length outs ≡ 3 = t.1 in
      (omega (arith, ins_long, l_is, r_is), omega (arith, outs_long, l_is, r_is))
  rules-arity (kind.Array tensor) ins outs a = counted (kind.Array tensor) ins outs a
  rules-arity kind.Mul ins outs a =
      let x = named 0 ins outs in
      product_ports ins outs (same_label (port_label outs 0) (bottom_label p x.term Whole)) _ _ (counted kind.Mul ins outs a) (refl, refl) (refl, refl)
  rules-arity kind.Add ins outs a = let t = counted kind.Add ins outs a in (t.0 ∙ two_added (eqb (length (result_sizes p)) 0) _ _ _ _, t.1)
  rules-arity kind.Sub ins outs a = let t = counted kind.Sub ins outs a in (t.0 ∙ two_added (eqb (length (result_sizes p)) 0) _ _ _ _, t.1)
  rules-arity (kind.Const c) ins outs a = counted (kind.Const c) ins outs a
  rules-arity kind.SumScalar ins outs a = counted kind.SumScalar ins outs a
  rules-arity kind.SumVector ins outs a = counted kind.SumVector ins outs a
  rules-arity kind.SumMatrix ins outs a = counted kind.SumMatrix ins outs a
  rules-arity kind.DropValue ins outs a = counted kind.DropValue ins outs a
  rules-arity kind.DropFiber ins outs a = counted kind.DropFiber ins outs a
  rules-arity (kind.Fill w) ins outs a =
      let x = named 0 ins outs in
      fill_ports ins outs w (eqb x.level (length (result_sizes p)))
      (own_labels p x.term (tree_side (port_label outs 0).tree) x.level Value) (tree_label (Beside x.term (tree_side (port_label outs 0).tree) x.level) Value) (eqb-true w _ (and_parts _ _ a.holds).0) (counted (kind.Fill w) ins outs a)
  rules-arity (kind.WriteLevel d) ins outs a = counted (kind.WriteLevel d) ins outs a
  rules-arity kind.WriteValue ins outs a = counted kind.WriteValue ins outs a
