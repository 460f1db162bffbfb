-- The values of a term as blocks: arrays, products and the coefficient.
use Rattle.std.specs.Prelude.{ℕ, suc, ◌-◌, List, [], ◌∷◌, ◌++◌, length, get_or, Option, Some, None}
use Rattle.std.specs.List.{range_with_len}
use mathlib.Core.List.{map}
use Rattle.sam_model.specs.Lists.{below}
use Rattle.stream_model.specs.declared.labels.Label.{Label}
use Rattle.stream_model.specs.declared.labels.Attr.{Attr}
use Rattle.stream_model.specs.declared.labels.Attr.TheVariants.{FactorValue, Partial, Whole, Literal}
use Rattle.graph.specs.declared.graphs.Kind.TheVariants as kind
use Rattle.custard_lower.specs.declared.drafts.Made.{Made}
use Rattle.label_rules.specs.declared.plans.Plan.{Plan}
pub use Rattle.custard_lower.specs.declared.values.Valued.{Valued}
use Rattle.custard_lower.specs.Drafts.{outputs_of}
use Rattle.label_rules.specs.Plans.{plan_access, asked}
use Rattle.label_rules.specs.Masks.{factors_mask}
use Rattle.custard_lower.specs.declared.trees.TermTrees.{TermTrees}
use Rattle.custard_lower.specs.Trees.{bottom_tree}

module _ (trees : TermTrees) (t : Plan) where
  -- below all loops
  abbrev pub full_label : Attr → Label
  full_label attr = record { tree = bottom_tree trees (length t.on_left) (factors_mask (asked t (length t.on_left - 1))); attr = attr }

  abbrev pub array : List ℕ → ℕ → Made
  array references f = record {
    kind = kind.Array (plan_access t f).tensor;
    ins = get_or references f 0 ∷ [];
    labels = full_label (FactorValue f) ∷ [];
  }

  abbrev pub arrays : List Made → List ℕ → List Made
  arrays made references = made ++ map (array references) (below (length t.accesses))

  -- the product of the first k factors, with factor k
  abbrev pub product : ℕ → ℕ → ℕ → Made
  product k values value = record { kind = kind.Mul; ins = values ∷ value ∷ []; labels = full_label (Partial (suc k)) ∷ [] }

  -- the values of the factors ks, whose arrays' outputs begin at w, multiplied one by one
  abbrev pub multiplied : Valued → ℕ → List ℕ → Valued
  multiplied v w [] = v
  multiplied v w (k ∷ ks) =
      multiplied (record { made = v.made ++ product k v.values w ∷ []; values = outputs_of v.made }) (suc w) ks

  abbrev pub constant : ℕ → ℕ → Made
  constant c values = record { kind = kind.Const c; ins = values ∷ []; labels = full_label (Literal c) ∷ [] }

  abbrev pub scaling : ℕ → ℕ → Made
  scaling values literal = record { kind = kind.Mul; ins = values ∷ literal ∷ []; labels = full_label Whole ∷ [] }

  -- times the coefficient, where there is a literal
  abbrev pub scaled : Option ℕ → Valued → Valued
  scaled None v = v
  scaled (Some c) v =
      let w = outputs_of v.made in
      record { made = (v.made ++ constant c v.values ∷ []) ++ scaling v.values w ∷ []; values = suc w }

  -- an array for each factor, their product, and the coefficient
  abbrev pub valued : List Made → List ℕ → Valued
  valued made references =
      let w = outputs_of made in
      scaled t.coefficient
      (multiplied (record { made = arrays made references; values = w }) (suc w) (range_with_len 1 (length t.accesses - 1)))
