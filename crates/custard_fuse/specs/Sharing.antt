-- The levels that all terms of a program share, as blocks: each term scans a level beneath what all terms had above it, and the terms'
-- coordinates are united there.
use Rattle.std.specs.Prelude.{ℕ, zero, suc, ◌+◌, List, [], ◌∷◌, ◌++◌, length, take, drop, get_or, replicate, None}
use Rattle.std.specs.List.{range_with_len}
use mathlib.Core.List.{map}
use Rattle.sam_model.specs.Lists.{below}
use Rattle.stream_model.specs.declared.labels.Label.{Label}
use Rattle.stream_model.specs.declared.labels.Attr.{Attr}
use Rattle.stream_model.specs.declared.labels.Attr.TheVariants.{Coordinate, Rank}
use Rattle.stream_model.specs.declared.labels.Tree.TheVariants.{Across}
use Rattle.graph.specs.declared.graphs.Kind.TheVariants as kind
use Rattle.label_rules.specs.declared.plans.Plan.{Plan}
use Rattle.label_rules.specs.Labels.{tree_label}
use Rattle.custard_lower.specs.declared.drafts.Made.{Made}
use Rattle.custard_lower.specs.declared.trees.TermTrees.{TermTrees}
use Rattle.custard_lower.specs.declared.trees.TermTrees.TheVariants.{Shared}
use Rattle.custard_lower.specs.Drafts.{outputs_of}
use Rattle.custard_lower.specs.declared.nests.Nest.{Nest}
use Rattle.custard_lower.specs.Nests.{level}

abbrev pub factors : Plan → ℕ
factors t = length t.accesses

abbrev pub no_plan : Plan
no_plan = record { on_left = []; accesses = []; coefficient = None }

-- the factors of these terms together
abbrev pub all_factors : List Plan → ℕ
all_factors [] = 0
all_factors (t ∷ ts) = factors t + all_factors ts

-- what the terms up to number upto have at a depth, with what is told of a term
abbrev pub across_label : ℕ → ℕ → ℕ → Attr → Label
across_label upto term depth attr = tree_label (Across upto term depth) attr

-- the references of the factors of these terms, from number n on
abbrev pub rank_labels : ℕ → ℕ → ℕ → List Plan → List Label
rank_labels upto depth n [] = []
rank_labels upto depth n (t ∷ ts) =
    map (λ f. across_label upto n depth (Rank f)) (below (factors t)) ++ rank_labels upto depth (suc n) ts

-- the coordinates of the first terms together, with the references of all their factors
abbrev pub across_labels : ℕ → ℕ → List Plan → List Label
across_labels upto depth ts = across_label upto 0 depth Coordinate ∷ rank_labels upto depth 0 ts

-- the terms up to number `last` share so many levels
module _ (last levels : ℕ) where
  abbrev pub shared_trees : ℕ → TermTrees
  shared_trees n = Shared n last levels

  -- Term number n scans the level below d others, from these references of its factors. Its coordinates and its factors' references
  -- come after those of the terms before.
  abbrev pub scanned_term : ℕ → ℕ → Plan → List ℕ → Nest → Nest
  scanned_term d n t references s =
      let one = level (shared_trees n) t d (record { made = s.made; coordinates = []; references = references }) in
      record {
        made = one.made;
        coordinates = s.coordinates ++ one.coordinates;
        references = s.references ++ one.references;
      }

  -- and so do the others after it
  abbrev pub scanned_terms : ℕ → ℕ → List Plan → List ℕ → Nest → Nest
  scanned_terms d n [] references s = s
  scanned_terms d n (t ∷ ts) references s =
      scanned_terms d (suc n) ts (drop (factors t) references) (scanned_term d n t (take (factors t) references) s)

-- all terms of a program; the last is number `last`
module _ (plans : List Plan) where
  -- the terms before number e, with it
  abbrev pub union : ℕ → ℕ → Nest → ℕ → List ℕ → Made
  union d e u coordinates references = record {
    kind = kind.Union (length u.references) (length references);
    ins = (get_or u.coordinates 0 0 ∷ u.references) ++ coordinates ∷ references;
    labels = across_labels e (suc d) (take (suc e) plans);
  }

  -- the terms before number e, which are united already, with the others one by one
  abbrev pub united : ℕ → ℕ → List Plan → List ℕ → List ℕ → Nest → Nest
  united d e [] coordinates references u = u
  united d e (t ∷ ts) coordinates references u =
      let w = outputs_of u.made in
      united d (suc e) ts (drop 1 coordinates) (drop (factors t) references) (record {
        made = u.made ++ union d e u (get_or coordinates 0 0) (take (factors t) references) ∷ [];
        coordinates = w ∷ [];
        references = range_with_len (suc w) (length u.references + length (take (factors t) references));
      })

  -- all terms, of which each has scanned
  abbrev pub united_terms : ℕ → Nest → Nest
  united_terms d s =
      let k = factors (get_or plans 0 no_plan) in
      let first : Nest = record { made = s.made; coordinates = take 1 s.coordinates; references = take k s.references } in
      united d 1 (drop 1 plans) (drop 1 s.coordinates) (drop k s.references) first

  -- the level below d others, beneath what all terms have
  abbrev pub shared_level : ℕ → ℕ → ℕ → Nest → Nest
  shared_level last levels d n =
      let s = scanned_terms last levels d 0 plans n.references (record { made = n.made; coordinates = []; references = [] }) in
      let all = united_terms d s in
      record { made = all.made; coordinates = n.coordinates ++ all.coordinates; references = all.references }

  -- the first d levels; before the first, each factor's reference is the root's output
  abbrev pub shared_levels_of : ℕ → ℕ → ℕ → List Made → Nest
  shared_levels_of last levels zero made = record { made = made; coordinates = []; references = replicate (all_factors plans) 0 }
  shared_levels_of last levels (suc d) made = shared_level last levels d (shared_levels_of last levels d made)
