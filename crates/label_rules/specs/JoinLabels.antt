-- The labels of the channels where a term is joined to those before it.
use Rattle.std.specs.Prelude.{ℕ, zero, suc, ◌-◌, Bool, true, false, cond, List, [], ◌∷◌, length, eqb}
use Rattle.std.specs.List.{range_with_len}
use mathlib.Core.List.{map}
use Rattle.sam_model.specs.declared.program.Program.{Program}
use Rattle.stream_model.specs.declared.labels.Side.{Side}
use Rattle.stream_model.specs.declared.labels.Side.TheVariants.{Left, Right}
use Rattle.stream_model.specs.declared.labels.Tree.{Tree}
use Rattle.stream_model.specs.declared.labels.Tree.TheVariants.{Root, Reduced, Joined, Beside}
use Rattle.stream_model.specs.declared.labels.Attr.{Attr}
use Rattle.stream_model.specs.declared.labels.Attr.TheVariants.{Value, Present, SideValue, Literal}
use Rattle.stream_model.specs.declared.labels.Label.{Label}
use Rattle.stream_model.specs.Labels.{result_sizes}
use Rattle.label_rules.specs.Labels.{tree_label, just_these}
use Rattle.label_rules.specs.TermLabels.{free_loop_count, value_labels}

module _ (p : Program) where
  -- ---- a side of the join of term e with those before it

  -- its tree on level d: on the first level its own, and on the others what is beneath the join
  abbrev pub side_tree : ℕ → Side → ℕ → Tree
  side_tree e Left zero = Root
  side_tree e Left (suc zero) = cond (eqb e 1) (Reduced 0 (free_loop_count p 0) 1 1) (Joined (e - 1) 1)
  side_tree e Left (suc (suc d)) = Beside e Left (suc (suc d))
  side_tree e Right zero = Root
  side_tree e Right (suc zero) = Reduced e (free_loop_count p e) 1 1
  side_tree e Right (suc (suc d)) = Beside e Right (suc (suc d))

  -- the labels of a term's level d, which may be pruned from any level down to it
  abbrev pub pruned_labels : ℕ → ℕ → Attr → List Label
  pruned_labels n d a = map (λ f. tree_label (Reduced n (free_loop_count p n) f d) a) (range_with_len 1 d)

  -- the labels that a side's own level d may have
  abbrev pub own_labels : ℕ → Side → ℕ → Attr → List Label
  own_labels e Left d a = cond (eqb e 1) (pruned_labels 0 d a) (tree_label (Joined (e - 1) d) a ∷ [])
  own_labels e Right d a = pruned_labels e d a

  -- ---- what is added

  -- the values of the terms before e, where the result has no level
  abbrev pub lone_labels : ℕ → List Label
  lone_labels e = cond (eqb e 1) (value_labels p 0 (free_loop_count p 0)) (tree_label (Joined (e - 1) 0) Value ∷ [])

  -- the values of both sides
  abbrev pub added_labels : ℕ → List (List Label)
  added_labels e =
      let r = length (result_sizes p) in
      cond (eqb r 0)
      (lone_labels e ∷ value_labels p e (free_loop_count p e) ∷ [])
      (just_these (tree_label (Joined e r) (SideValue Left) ∷ tree_label (Joined e r) (SideValue Right) ∷ []))

-- ---- what passes beside the coordinates of a side: values on the last level, and marks above it

abbrev pub beside_attr : Bool → Attr
beside_attr true = Value
beside_attr false = Literal 1

-- and what a union makes of it
abbrev pub joined_attr : Bool → Side → Attr
joined_attr true side = SideValue side
joined_attr false side = Present side
