-- The loops of a term as blocks, level by level: scanners, intersecters and repeaters.
use Rattle.std.specs.Prelude.{ℕ, zero, suc, List, [], ◌∷◌, ◌++◌, length, drop, get_or, set, replicate}
use Rattle.std.specs.List.{range_with_len}
use mathlib.Core.List.{map}
use Rattle.stream_model.specs.declared.labels.Label.{Label}
use Rattle.stream_model.specs.declared.labels.Attr.{Attr}
use Rattle.stream_model.specs.declared.labels.Attr.TheVariants.{Coordinate, Rank}
use Rattle.stream_model.specs.Masks.{levels_before}
use Rattle.graph.specs.declared.graphs.Kind.TheVariants as kind
use Rattle.custard_lower.specs.declared.drafts.Made.{Made}
use Rattle.label_rules.specs.declared.plans.Plan.{Plan}
use Rattle.custard_lower.specs.declared.trees.TermTrees.{TermTrees}
use Rattle.custard_lower.specs.Trees.{product_tree}
pub use Rattle.custard_lower.specs.declared.nests.Met.{Met}
pub use Rattle.custard_lower.specs.declared.nests.Nest.{Nest}
use Rattle.custard_lower.specs.Drafts.{outputs_of}
use Rattle.label_rules.specs.Masks.{factors_mask}
use Rattle.label_rules.specs.Plans.{plan_access, asked, spared}

-- a draft in which factors were met, and what is met in the end
pub record Meeting : Type 0 where
  pub made : List Made
  pub met : Met

-- the product tree of a term down to a level, which these factors restrict
abbrev pub product_tree_label : TermTrees → ℕ → List ℕ → Attr → Label
product_tree_label trees level factors attr = record { tree = product_tree trees level (factors_mask factors); attr = attr }

-- the outputs of the numbers ws put at the places fs
abbrev pub placed : List ℕ → List ℕ → List ℕ → List ℕ
placed references [] ws = references
placed references (f ∷ fs) [] = references
placed references (f ∷ fs) (w ∷ ws) = placed (set references f w) fs ws

-- a term, whose labels name these trees
module _ (trees : TermTrees) (t : Plan) where
  -- the coordinates and the references of these factors
  abbrev pub head_labels : ℕ → List ℕ → List Label
  head_labels level factors =
      product_tree_label trees level factors Coordinate ∷ map (λ f. product_tree_label trees level factors (Rank f)) factors

  -- ---- the blocks below d loops; level d + 1 is theirs

  abbrev pub scan : ℕ → List ℕ → ℕ → Made
  scan d references f = record {
    kind = kind.Scan (plan_access t f).tensor (suc (levels_before (plan_access t f).has d));
    ins = get_or references f 0 ∷ [];
    labels = head_labels (suc d) (f ∷ []);
  }

  -- what is met so far, with the scanner of f, whose outputs are w and the next
  abbrev pub intersect : ℕ → Met → ℕ → ℕ → Made
  intersect d met f w = record {
    kind = kind.Intersect (length met.factors) 1;
    ins = (met.coordinates ∷ met.references) ++ (w ∷ suc w ∷ []);
    labels = head_labels (suc d) (met.factors ++ f ∷ []);
  }

  abbrev pub repeat : ℕ → ℕ → List ℕ → ℕ → Made
  repeat d coordinates references f = record {
    kind = kind.Repeat;
    ins = coordinates ∷ get_or references f 0 ∷ [];
    labels = product_tree_label trees (suc d) (asked t d) (Rank f) ∷ [];
  }

  -- ---- a level

  -- the first scanner's outputs are met
  abbrev pub first_met : List ℕ → ℕ → Met
  first_met [] w = record { factors = []; coordinates = 0; references = [] }
  first_met (f ∷ fs) w = record { factors = f ∷ []; coordinates = w; references = suc w ∷ [] }

  -- an intersecter gives its coordinates, and a reference for each factor
  abbrev pub met_with : Met → ℕ → ℕ → Met
  met_with met f base = record {
    factors = met.factors ++ f ∷ [];
    coordinates = base;
    references = range_with_len (suc base) (suc (length met.factors));
  }

  -- the scanners of these factors, whose outputs begin at w, met one by one
  abbrev pub all_met : ℕ → List Made → Met → ℕ → List ℕ → Meeting
  all_met d made met w [] = record { made = made; met = met }
  all_met d made met w (f ∷ fs) =
      all_met d (made ++ intersect d met f w ∷ []) (met_with met f (outputs_of made)) (suc (suc w)) fs

  abbrev pub scanned : ℕ → Nest → List Made
  scanned d nest = nest.made ++ map (scan d nest.references) (asked t d)

  -- the level below d loops: its factors are scanned and met, and the references of the others repeated
  abbrev pub level : ℕ → Nest → Nest
  level d nest =
      let w = outputs_of nest.made in
      let first = first_met (asked t d) w in
      let all = all_met d (scanned d nest) first (suc (suc w)) (drop 1 (asked t d)) in
      record {
        made = all.made ++ map (repeat d all.met.coordinates nest.references) (spared t d);
        coordinates = nest.coordinates ++ all.met.coordinates ∷ [];
        references = placed (placed nest.references (asked t d) all.met.references) (spared t d)
            (range_with_len (outputs_of all.made) (length (spared t d)));
      }

  -- the first d levels; before the first, each factor's reference is the root's output
  abbrev pub nest : ℕ → List Made → Nest
  nest zero made = record { made = made; coordinates = []; references = replicate (length t.accesses) 0 }
  nest (suc d) made = level d (nest d made)
