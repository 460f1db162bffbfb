-- Which labels the channels at a block may have, kind by kind, over a program.
use Rattle.std.specs.Prelude.{◌≡◌, ℕ, suc, ◌-◌, Bool, true, false, cond, ◌&&◌, not, List, [], ◌∷◌, ◌++◌, length, get_or, eqb, ltb, leb}
use Rattle.std.specs.Int.Bits.{bit_or}
use Rattle.std.specs.List.{range_with_len}
use mathlib.Core.List.{map}
use Rattle.sam_model.specs.declared.program.Program.{Program}
use Rattle.stream_model.specs.declared.labels.Side.TheVariants.{Left, Right}
use Rattle.stream_model.specs.declared.labels.Tree.{Tree}
use Rattle.stream_model.specs.declared.labels.Tree.TheVariants.{Product, Joined, Beside}
use Rattle.stream_model.specs.declared.labels.Attr.{Attr}
use Rattle.stream_model.specs.declared.labels.Attr.TheVariants.{Coordinate, Rank, FactorValue, Partial, Whole, Value, Present, Literal}
use Rattle.stream_model.specs.declared.labels.Label.{Label}
use Rattle.stream_model.specs.Labels.{result_sizes}
use Rattle.stream_model.specs.Masks.{levels_before}
use Rattle.graph.specs.declared.graphs.Kind.{Kind}
use Rattle.graph.specs.declared.graphs.Kind.TheVariants as kind
use Rattle.label_rules.specs.Labels.{tree_label, no_label, same_label, same_labels, ports_allow, PortsAllow, just_these, port_label}
use Rattle.label_rules.specs.Named.{named, tree_side}
use Rattle.label_rules.specs.Masks.{factors_mask}
use Rattle.label_rules.specs.Plans.{plan_access, has_loop}
use Rattle.label_rules.specs.TermLabels.{empty_term, plan_at, is_term, loop_count, factor_count, free_loop_count, plan_coefficient, full_mask, product_label, reference_label, bottom_label, met_labels, partial_labels, reduced_label, coordinate_labels, value_labels, left_after}
use Rattle.label_rules.specs.JoinLabels.{side_tree, own_labels, added_labels, beside_attr, joined_attr}

-- The labels that a block may have, at what its labels name: on which condition, and port by port the labels of its inputs
-- and the labels of its outputs.
pub record Instance : Type 0 where
  pub holds : Bool
  pub ins : List (List Label)
  pub outs : List Label

-- a constant stands beside coordinates, and beside what is told of a term's factors
abbrev pub takes_constant : Tree → Attr → Bool
takes_constant tree Coordinate = true
takes_constant (Product t l m) (FactorValue f) = true
takes_constant (Product t l m) (Partial k) = true
takes_constant (Product t l m) Whole = true
takes_constant tree attr = false

module _ (p : Program) where
  -- the result's levels
  abbrev pub level_count : ℕ
  level_count = length (result_sizes p)

  -- a loop of a term that is taken away has so many on the left after it
  abbrev pub is_reduction : ℕ → ℕ → ℕ → ℕ → Bool
  is_reduction t gone g after =
      is_term p t && (ltb 0 gone && (ltb g (free_loop_count p t) && eqb (left_after g (plan_at p t).on_left) after))

  -- a term from the second on
  abbrev pub is_further : ℕ → Bool
  is_further e = ltb 0 e && ltb e (length p.terms)

  -- what the writer of level d takes, and the writer of the values
  abbrev pub written_labels : ℕ → List Label
  written_labels d =
      cond (eqb (length p.terms) 1) (map (λ f. reduced_label p 0 (free_loop_count p 0) f d Coordinate) (range_with_len 1 d))
      (tree_label (Joined (length p.terms - 1) d) Coordinate ∷ [])

  abbrev pub written_value_labels : List Label
  written_value_labels =
      let r = level_count in
      cond (eqb (length p.terms) 1) (reduced_label p 0 (free_loop_count p 0) (cond (eqb r 0) 9 r) r Value ∷ [])
      (tree_label (Joined (length p.terms - 1) r) Value ∷ [])

  abbrev pub instance : Kind → List Label → List Label → Instance
  instance kind.Root ins outs = record { holds = true; ins = []; outs = no_label ∷ [] }
  instance (kind.Scan tensor level) ins outs =
      let x = named 0 ins outs in let d = x.level - 1 in let t = x.term in let f = x.factor in
      record {
        holds =
            is_term p t && (ltb d (loop_count p t) && (ltb f (factor_count p t) && (has_loop (plan_at p t) d f
            && (eqb tensor (plan_access (plan_at p t) f).tensor && eqb level (suc (levels_before (plan_access (plan_at p t) f).has d))))));
        ins = just_these (reference_label p t d f ∷ []);
        outs = met_labels p t (suc d) (factors_mask (f ∷ [])) (f ∷ []);
      }
  instance kind.Repeat ins outs =
      let x = named 0 ins outs in let d = x.level - 1 in let t = x.term in let f = x.factor in
      record {
        holds = is_term p t && (ltb d (loop_count p t) && (ltb f (factor_count p t) && not (has_loop (plan_at p t) d f)));
        ins = just_these (product_label p t (suc d) (full_mask p t d) Coordinate ∷ reference_label p t d f ∷ []);
        outs = product_label p t (suc d) (full_mask p t d) (Rank f) ∷ [];
      }
  instance (kind.Cast n) ins outs =
      record { holds = eqb (length outs) n; ins = just_these (port_label ins 0 ∷ []); outs = map (λ _. port_label ins 0) outs }
  instance kind.Drain ins outs = record { holds = true; ins = just_these (port_label ins 0 ∷ []); outs = [] }
  instance (kind.Intersect l r) ins outs =
      let x = named l ins outs in let t = x.term in
      record {
        holds = is_term p t && (eqb l (length x.these) && eqb r (length x.those));
        ins = just_these (met_labels p t x.level x.left x.these ++ met_labels p t x.level x.right x.those);
        outs = met_labels p t x.level (bit_or x.left x.right) (x.these ++ x.those);
      }
  instance (kind.Array tensor) ins outs =
      let x = named 0 ins outs in let t = x.term in let f = x.factor in
      record {
        holds = is_term p t && (ltb f (factor_count p t) && eqb tensor (plan_access (plan_at p t) f).tensor);
        ins = just_these (bottom_label p t (Rank f) ∷ []);
        outs = bottom_label p t (FactorValue f) ∷ [];
      }
  instance kind.Mul ins outs =
      let x = named 0 ins outs in let t = x.term in let k = x.factor in
      cond (same_label (port_label outs 0) (bottom_label p t Whole))
      (record {
        holds = is_term p t;
        ins = partial_labels p t (factor_count p t) ∷ (bottom_label p t (Literal (plan_coefficient p t)) ∷ []) ∷ [];
        outs = bottom_label p t Whole ∷ [];
      })
      (record {
        holds = is_term p t && (ltb 1 k && leb k (factor_count p t));
        ins = partial_labels p t (k - 1) ∷ (bottom_label p t (FactorValue (k - 1)) ∷ []) ∷ [];
        outs = bottom_label p t (Partial k) ∷ [];
      })
  instance (kind.Const c) ins outs =
      record {
        holds = takes_constant (port_label ins 0).tree (port_label ins 0).attr;
        ins = just_these (port_label ins 0 ∷ []);
        outs = tree_label (port_label ins 0).tree (Literal c) ∷ [];
      }
  instance kind.SumScalar ins outs =
      let x = named 0 ins outs in let t = x.term in let g = x.gone - 1 in let n = loop_count p t - g in
      record {
        holds = is_reduction t x.gone g 0;
        ins = cond (eqb n 1) (no_label ∷ []) (coordinate_labels p t g (n - 1)) ∷ value_labels p t g ∷ [];
        outs = reduced_label p t (suc g) 9 (n - 1) Value ∷ [];
      }
  instance kind.SumVector ins outs =
      let x = named 0 ins outs in let t = x.term in let g = x.gone - 1 in let n = loop_count p t - g in
      record {
        holds = is_reduction t x.gone g 1;
        ins = coordinate_labels p t g n ∷ value_labels p t g ∷ [];
        outs = reduced_label p t (suc g) 9 (n - 1) Coordinate ∷ reduced_label p t (suc g) 9 (n - 1) Value ∷ [];
      }
  instance kind.SumMatrix ins outs =
      let x = named 0 ins outs in let t = x.term in let g = x.gone - 1 in let n = loop_count p t - g in
      record {
        holds = is_reduction t x.gone g 2;
        ins = coordinate_labels p t g (n - 1) ∷ coordinate_labels p t g n ∷ value_labels p t g ∷ [];
        outs =
            reduced_label p t (suc g) 9 (n - 2) Coordinate
            ∷ reduced_label p t (suc g) 9 (n - 1) Coordinate
            ∷ reduced_label p t (suc g) 9 (n - 1) Value
            ∷ [];
      }
  instance kind.DropValue ins outs =
      let t = (named 0 ins outs).term in let g = free_loop_count p t in let r = level_count in
      record {
        holds = is_term p t && ltb 0 r;
        ins = coordinate_labels p t g r ∷ value_labels p t g ∷ [];
        outs = reduced_label p t g r r Coordinate ∷ reduced_label p t g r r Value ∷ [];
      }
  instance kind.DropFiber ins outs =
      let x = named 0 ins outs in let t = x.term in let f = x.level in let g = free_loop_count p t in
      record {
        holds = is_term p t && (ltb 0 f && ltb f level_count);
        ins = coordinate_labels p t g f ∷ (reduced_label p t g (suc f) (suc f) Coordinate ∷ []) ∷ [];
        outs = reduced_label p t g f f Coordinate ∷ reduced_label p t g f (suc f) Coordinate ∷ [];
      }
  instance (kind.Union l r) ins outs =
      let x = named 1 ins outs in let e = x.term in let d = x.level in let full = eqb d level_count in
      record {
        holds = eqb l 1 && (eqb r 1 && (is_further e && (ltb 0 d && leb d level_count)));
        ins =
            just_these
            (tree_label (side_tree p e Left d) Coordinate
            ∷ tree_label (side_tree p e Left d) (beside_attr full)
            ∷ tree_label (side_tree p e Right d) Coordinate
            ∷ tree_label (side_tree p e Right d) (beside_attr full)
            ∷ []);
        outs =
            tree_label (Joined e d) Coordinate
            ∷ tree_label (Joined e d) (joined_attr full Left)
            ∷ tree_label (Joined e d) (joined_attr full Right)
            ∷ [];
      }
  instance (kind.Fill w) ins outs =
      let x = named 0 ins outs in let e = x.term in let d = x.level in let side = tree_side (port_label outs 0).tree in
      let full = eqb d level_count in
      record {
        holds = eqb w (cond full 1 0) && (is_further e && (ltb 1 d && leb d level_count));
        ins =
            (tree_label (Joined e (d - 1)) (Present side) ∷ [])
            ∷ own_labels p e side d Coordinate
            ∷ cond full (own_labels p e side d Value ∷ []) [];
        outs = tree_label (Beside e side d) Coordinate ∷ cond full (tree_label (Beside e side d) Value ∷ []) [];
      }
  instance kind.Add ins outs =
      let e = (named 0 ins outs).term in
      record {
        holds = is_further e && not (get_or p.terms e empty_term).minus;
        ins = added_labels p e;
        outs = tree_label (Joined e level_count) Value ∷ [];
      }
  instance kind.Sub ins outs =
      let e = (named 0 ins outs).term in
      record {
        holds = is_further e && (get_or p.terms e empty_term).minus;
        ins = added_labels p e;
        outs = tree_label (Joined e level_count) Value ∷ [];
      }
  instance (kind.WriteLevel d) ins outs =
      record { holds = ltb 0 d && leb d level_count; ins = written_labels d ∷ []; outs = [] }
  instance kind.WriteValue ins outs = record { holds = true; ins = written_value_labels ∷ []; outs = [] }

  -- the labels at the ports of a block are those of its rule
  pub record Allowed (k : Kind) (ins outs : List Label) : Type 0 where
    pub holds : (instance k ins outs).holds ≡ true
    pub ins_are : PortsAllow (instance k ins outs).ins ins
    pub outs_are : outs ≡ (instance k ins outs).outs

  -- the same as a test
  abbrev pub allowed : Kind → List Label → List Label → Bool
  allowed k ins outs = let i = instance k ins outs in i.holds && (ports_allow i.ins ins && same_labels outs i.outs)
