-- Which labels the channels at a block of a fused graph may have, kind by kind, over a program.
use Rattle.std.specs.Prelude.{◌≡◌, ◌≤◌, ℕ, zero, suc, ◌-◌, Bool, true, false, cond, ◌&&◌, not, List, [], ◌∷◌, ◌++◌, length, take, get_or, eqb, ltb, leb}
use Rattle.std.specs.Int.Bits.{bit_or}
use Rattle.std.specs.List.{range_with_len}
use mathlib.Core.List.{map}
use Rattle.sam_model.specs.declared.program.Program.{Program}
use Rattle.sam_model.specs.Lists.{below}
use Rattle.stream_model.specs.declared.labels.Tree.{Tree}
use Rattle.stream_model.specs.declared.labels.Tree.TheVariants.{Across, Under, UnderReduced, UnderJoined}
use Rattle.stream_model.specs.declared.labels.Attr.{Attr}
use Rattle.stream_model.specs.declared.labels.Attr.TheVariants.{Coordinate, Rank, FactorValue, Partial, Whole, Value, Literal}
use Rattle.stream_model.specs.declared.labels.Label.{Label}
use Rattle.stream_model.specs.Fused.{shared_levels}
use Rattle.stream_model.specs.Masks.{levels_before}
use Rattle.graph.specs.declared.graphs.Kind.{Kind}
use Rattle.graph.specs.declared.graphs.Kind.TheVariants as kind
use Rattle.label_rules.specs.Labels.{tree_label, no_label, same_label, same_labels, ports_allow, PortsAllow, just_these, port_label}
use Rattle.label_rules.specs.Masks.{factors_mask}
use Rattle.label_rules.specs.Named.{tree_level, named}
use Rattle.label_rules.specs.Plans.{plan_access, has_loop}
use Rattle.label_rules.specs.TermLabels.{empty_term, plan_at, is_term, loop_count, factor_count, free_loop_count, plan_coefficient, full_mask, left_after}
use Rattle.label_rules.specs.Rules.{Instance, is_further}
use Rattle.custard_lower.specs.declared.trees.TermTrees.{TermTrees}
use Rattle.custard_lower.specs.declared.trees.TermTrees.TheVariants.{Shared}
use Rattle.custard_lower.specs.Trees.{unpruned, bottom_tree}
use Rattle.custard_fuse.specs.Sharing.{all_factors, across_label, across_labels}
use Rattle.custard_fuse.specs.Fusing.{plans_of}

-- ---- what the labels of a block name

abbrev pub under_mask : Tree → ℕ
under_mask (Under t l m) = m
under_mask other = 0

abbrev pub under_gone : Tree → ℕ
under_gone (UnderReduced t g d) = g
under_gone other = 0

-- the last of the terms that are united
abbrev pub across_upto : Tree → ℕ
across_upto (Across n t d) = n
across_upto other = 0

module _ (p : Program) where
  -- the last term
  abbrev pub last_term : ℕ
  last_term = length p.terms - 1

  abbrev pub fused_trees : ℕ → TermTrees
  fused_trees t = Shared t last_term (shared_levels p)

  -- ---- labels

  abbrev pub under_label : ℕ → ℕ → ℕ → Attr → Label
  under_label t level mask attr = tree_label (Under t level mask) attr

  -- the coordinates of a mask with the references of these factors
  abbrev pub under_labels : ℕ → ℕ → ℕ → List ℕ → List Label
  under_labels t level mask fs = under_label t level mask Coordinate ∷ map (λ f. under_label t level mask (Rank f)) fs

  -- what all accesses of a term let follow below d loops, with all references
  abbrev pub whole_labels : ℕ → ℕ → List Label
  whole_labels t d = under_labels t (suc d) (full_mask p t d) (below (factor_count p t))

  -- a factor's references below d loops: on the shared levels they are united
  abbrev pub fused_reference : ℕ → ℕ → ℕ → Label
  fused_reference t zero f = no_label
  fused_reference t (suc d) f =
      cond (ltb d (shared_levels p)) (across_label last_term t (suc d) (Rank f)) (under_label t (suc d) (full_mask p t d) (Rank f))

  -- the coordinates of a level: on the shared ones, those of all terms
  abbrev pub level_label : ℕ → ℕ → Label
  level_label t zero = no_label
  level_label t (suc d) =
      cond (ltb d (shared_levels p)) (across_label last_term 0 (suc d) Coordinate) (under_label t (suc d) (full_mask p t d) Coordinate)

  -- below all loops
  abbrev pub fused_bottom : ℕ → Attr → Label
  fused_bottom t attr = tree_label (bottom_tree (fused_trees t) (loop_count p t) (full_mask p t (loop_count p t - 1))) attr

  -- the labels that the product of k factors may have
  abbrev pub fused_products : ℕ → ℕ → List Label
  fused_products t k = fused_bottom t (Partial k) ∷ cond (eqb k 1) (fused_bottom t (FactorValue 0) ∷ []) []

  -- and the values where g loops are gone
  abbrev pub fused_values : ℕ → ℕ → List Label
  fused_values t zero = fused_bottom t Whole ∷ cond (eqb (plan_coefficient p t) 1) (fused_products t (factor_count p t)) []
  fused_values t (suc g) = tree_label (UnderReduced t (suc g) (loop_count p t - suc g)) Value ∷ []

  -- the values of a term, and of the terms up to number e
  abbrev pub term_values : ℕ → List Label
  term_values t = fused_values t (free_loop_count p t)

  abbrev pub sum_label : ℕ → ℕ → Attr → Label
  sum_label prune depth attr = tree_label (UnderJoined last_term prune depth) attr

  abbrev pub values_upto : ℕ → List Label
  values_upto zero = term_values 0
  values_upto (suc e) = tree_label (UnderJoined (suc e) unpruned (shared_levels p)) Value ∷ []

  -- the terms before number suc e, on the level below d others: the first alone, or united
  abbrev pub before_labels : ℕ → ℕ → List Label
  before_labels zero d = whole_labels 0 d
  before_labels (suc e) d = across_labels (suc e) (suc d) (take (suc (suc e)) (plans_of p))

  -- ---- the rules

  -- a level of a term beneath others
  abbrev pub is_level : ℕ → ℕ → Bool
  is_level t d = is_term p t && ltb d (loop_count p t)

  abbrev pub fused_instance : Kind → List Label → List Label → Instance
  fused_instance kind.Root ins outs = record { holds = true; ins = []; outs = no_label ∷ [] }
  fused_instance (kind.Scan tensor level) ins outs =
      let x = named 0 ins outs in let d = x.level - 1 in let t = x.term in let f = x.factor in
      record {
        holds =
            is_level t d && (ltb f (factor_count p t) && (has_loop (plan_at p t) d f
            && (eqb tensor (plan_access (plan_at p t) f).tensor && eqb level (suc (levels_before (plan_access (plan_at p t) f).has d)))));
        ins = just_these (fused_reference t d f ∷ []);
        outs = under_labels t (suc d) (factors_mask (f ∷ [])) (f ∷ []);
      }
  fused_instance kind.Repeat ins outs =
      let x = named 0 ins outs in let d = x.level - 1 in let t = x.term in let f = x.factor in
      record {
        holds = is_level t d && (ltb f (factor_count p t) && not (has_loop (plan_at p t) d f));
        ins = just_these (under_label t (suc d) (full_mask p t d) Coordinate ∷ fused_reference t d f ∷ []);
        outs = under_label t (suc d) (full_mask p t d) (Rank f) ∷ [];
      }
  fused_instance (kind.Cast n) ins outs =
      record { holds = eqb (length outs) n; ins = just_these (port_label ins 0 ∷ []); outs = map (λ _. port_label ins 0) outs }
  fused_instance kind.Drain ins outs = record { holds = true; ins = just_these (port_label ins 0 ∷ []); outs = [] }
  fused_instance (kind.Intersect l r) ins outs =
      let x = named l ins outs in let t = x.term in let d = x.level - 1 in
      let left = under_mask (port_label ins 0).tree in let right = under_mask (port_label ins (suc l)).tree in
      record {
        holds = is_level t d && (eqb l (length x.these) && eqb r (length x.those));
        ins = just_these (under_labels t (suc d) left x.these ++ under_labels t (suc d) right x.those);
        outs = under_labels t (suc d) (bit_or left right) (x.these ++ x.those);
      }
  fused_instance (kind.Union l r) ins outs =
      let e = across_upto (port_label outs 0).tree in let d = tree_level (port_label outs 0).tree - 1 in
      record {
        holds =
            is_further p e && (ltb d (shared_levels p)
            && (eqb l (all_factors (take e (plans_of p))) && eqb r (factor_count p e)));
        ins = just_these (before_labels (e - 1) d ++ whole_labels e d);
        outs = across_labels e (suc d) (take (suc e) (plans_of p));
      }
  fused_instance (kind.Array tensor) ins outs =
      let x = named 0 ins outs in let t = x.term in let f = x.factor in
      record {
        holds = is_term p t && (ltb f (factor_count p t) && eqb tensor (plan_access (plan_at p t) f).tensor);
        ins = just_these (fused_bottom t (Rank f) ∷ []);
        outs = fused_bottom t (FactorValue f) ∷ [];
      }
  fused_instance kind.Mul ins outs =
      let x = named 0 ins outs in let t = x.term in let k = x.factor in
      cond (same_label (port_label outs 0) (fused_bottom t Whole))
      (record {
        holds = is_term p t;
        ins = fused_products t (factor_count p t) ∷ (fused_bottom t (Literal (plan_coefficient p t)) ∷ []) ∷ [];
        outs = fused_bottom t Whole ∷ [];
      })
      (record {
        holds = is_term p t && (ltb 1 k && leb k (factor_count p t));
        ins = fused_products t (k - 1) ∷ (fused_bottom t (FactorValue (k - 1)) ∷ []) ∷ [];
        outs = fused_bottom t (Partial k) ∷ [];
      })
  fused_instance (kind.Const c) ins outs =
      let t = (named 0 ins outs).term in
      record {
        holds = is_term p t;
        ins = fused_products t (factor_count p t) ∷ [];
        outs = fused_bottom t (Literal c) ∷ [];
      }
  fused_instance kind.SumScalar ins outs =
      let t = (named 0 ins outs).term in let g = under_gone (port_label outs 0).tree - 1 in let n = loop_count p t - g in
      record {
        holds = is_term p t && (ltb g (free_loop_count p t) && eqb (left_after g (plan_at p t).on_left) 0);
        ins = (level_label t (n - 1) ∷ []) ∷ fused_values t g ∷ [];
        outs = tree_label (UnderReduced t (suc g) (n - 1)) Value ∷ [];
      }
  fused_instance kind.Add ins outs =
      let e = (named 0 ins outs).term in
      record {
        holds = is_further p e && not (get_or p.terms e empty_term).minus;
        ins = values_upto (e - 1) ∷ term_values e ∷ [];
        outs = tree_label (UnderJoined e unpruned (shared_levels p)) Value ∷ [];
      }
  fused_instance kind.Sub ins outs =
      let e = (named 0 ins outs).term in
      record {
        holds = is_further p e && (get_or p.terms e empty_term).minus;
        ins = values_upto (e - 1) ∷ term_values e ∷ [];
        outs = tree_label (UnderJoined e unpruned (shared_levels p)) Value ∷ [];
      }
  fused_instance kind.DropValue ins outs =
      let h = shared_levels p in
      record {
        holds = true;
        ins = (level_label 0 h ∷ []) ∷ values_upto last_term ∷ [];
        outs = sum_label h h Coordinate ∷ sum_label h h Value ∷ [];
      }
  fused_instance kind.DropFiber ins outs =
      let f = tree_level (port_label outs 0).tree in
      record {
        holds = ltb 0 f && ltb f (shared_levels p);
        ins = just_these (level_label 0 f ∷ sum_label (suc f) (suc f) Coordinate ∷ []);
        outs = sum_label f f Coordinate ∷ sum_label f (suc f) Coordinate ∷ [];
      }
  fused_instance (kind.WriteLevel d) ins outs =
      record {
        holds = ltb 0 d && leb d (shared_levels p);
        ins = map (λ f. sum_label f d Coordinate) (range_with_len 1 d) ∷ [];
        outs = [];
      }
  fused_instance kind.WriteValue ins outs =
      record { holds = true; ins = (sum_label (shared_levels p) (shared_levels p) Value ∷ []) ∷ []; outs = [] }
  fused_instance other ins outs = record { holds = false; ins = []; outs = [] }

  -- the labels at the ports of a block are those of its rule
  pub record FusedAllowed (k : Kind) (ins outs : List Label) : Type 0 where
    pub holds : (fused_instance k ins outs).holds ≡ true
    pub ins_are : PortsAllow (fused_instance k ins outs).ins ins
    pub outs_are : outs ≡ (fused_instance k ins outs).outs

  -- the same as a test
  abbrev pub fused_allowed : Kind → List Label → List Label → Bool
  fused_allowed k ins outs = let i = fused_instance k ins outs in i.holds && (ports_allow i.ins ins && same_labels outs i.outs)

-- a label of a tree of at most eight levels
abbrev pub Deep : Label → Type 0
Deep l = tree_level l.tree ≤ 8
