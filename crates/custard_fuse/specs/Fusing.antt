-- The blocks of a program whose terms are fused, in the order in which they are made.
use Rattle.std.specs.Prelude.{ℕ, zero, suc, ◌+◌, ◌-◌, Bool, cond, ◌&&◌, List, [], ◌∷◌, ◌++◌, length, take, drop, get_or, eqb, ltb, leb}
use mathlib.Core.List.{map}
use Rattle.sam_model.specs.declared.program.Program.{Program}
use Rattle.sam_model.specs.Lists.{below}
use Rattle.stream_model.specs.declared.labels.Attr.TheVariants.{Value}
use Rattle.stream_model.specs.declared.labels.Tree.TheVariants.{UnderJoined}
use Rattle.stream_model.specs.Fused.{shared_levels}
use Rattle.graph.specs.declared.graphs.Kind.TheVariants as kind
use Rattle.graph.specs.declared.graphs.Graph.{Graph}
use Rattle.label_rules.specs.declared.plans.Plan.{Plan}
use Rattle.label_rules.specs.Labels.{tree_label}
use Rattle.label_rules.specs.TermLabels.{empty_term, plan_at}
use Rattle.custard_lower.specs.declared.drafts.Made.{Made}
use Rattle.custard_lower.specs.declared.trees.TermTrees.{TermTrees}
use Rattle.custard_lower.specs.declared.trees.TermTrees.TheVariants.{Shared}
use Rattle.custard_lower.specs.declared.trees.PrunedTrees.TheVariants.{OfAll}
use Rattle.custard_lower.specs.Trees.{unpruned}
use Rattle.custard_lower.specs.Drafts.{outputs_of}
use Rattle.custard_lower.specs.declared.nests.Nest.{Nest}
use Rattle.custard_lower.specs.declared.reductions.Levels.{Levels}
use Rattle.custard_lower.specs.Nests.{level}
use Rattle.custard_lower.specs.Reductions.{pruned}
use Rattle.custard_lower.specs.Lowering.{root, summed_nest, with_writers}
use Rattle.custard_lower.specs.DraftGraph.{graph_of}
use Rattle.custard_lower.specs.Lowered.{low}
use Rattle.custard_fuse.specs.Sharing.{factors, all_factors, shared_levels_of}

-- the plans of all terms
abbrev pub plans_of : Program → List Plan
plans_of p = map (plan_at p) (below (length p.terms))

-- Terms are fused where there are several, with few factors together, and every variable of the result comes before every other.
abbrev pub is_fused : Program → Bool
is_fused p =
    ltb 1 (length p.terms)
    && (leb (all_factors (plans_of p)) 8 && (ltb 0 (shared_levels p) && eqb (shared_levels p) (length p.result.order)))

-- ---- beneath the shared levels

-- the terms up to number `last` share so many levels
module _ (last levels : ℕ) where
  -- k levels more of a term
  abbrev pub deeper_levels : TermTrees → Plan → ℕ → Nest → Nest
  deeper_levels trees t zero n = n
  deeper_levels trees t (suc k) n = level trees t (levels + k) (deeper_levels trees t k n)

  -- term number n: the rest of its loops, its values and its sums
  abbrev pub summed_term : ℕ → Plan → Nest → Levels
  summed_term n t nest =
      let trees = Shared n last levels in summed_nest trees t (deeper_levels trees t (length t.on_left - levels) nest)

  -- the values of the terms before number n, with its own, which may be subtracted
  abbrev pub addition : ℕ → Bool → ℕ → ℕ → Made
  addition n minus a b = record {
    kind = cond minus kind.Sub kind.Add;
    ins = a ∷ b ∷ [];
    labels = tree_label (UnderJoined n unpruned levels) Value ∷ [];
  }

  -- term number n, from these references of its factors, added to those before
  abbrev pub added_term : Program → ℕ → Plan → List ℕ → Levels → Levels
  added_term p n t references l =
      let one = summed_term n t (record { made = l.made; coordinates = l.coordinates; references = references }) in
      record {
        made = one.made ++ addition n (get_or p.terms n empty_term).minus l.values one.values ∷ [];
        coordinates = l.coordinates;
        values = outputs_of one.made;
      }

  -- and so are the others after it
  abbrev pub added_terms : Program → ℕ → List Plan → List ℕ → Levels → Levels
  added_terms p n [] references l = l
  added_terms p n (t ∷ ts) references l =
      added_terms p (suc n) ts (drop (factors t) references) (added_term p n t (take (factors t) references) l)

  -- term number 0
  abbrev pub first_term : Plan → List Made → List ℕ → List ℕ → Levels
  first_term t made coordinates references =
      let one = summed_term 0 t (record { made = made; coordinates = coordinates; references = references }) in
      record { made = one.made; coordinates = coordinates; values = one.values }

  -- all terms, after the levels that they share
  abbrev pub all_terms : Program → List Plan → Nest → Levels
  all_terms p [] n = record { made = n.made; coordinates = n.coordinates; values = 0 }
  all_terms p (t ∷ ts) n =
      added_terms p 1 ts (drop (factors t) n.references) (first_term t n.made n.coordinates (take (factors t) n.references))

-- ---- all blocks

abbrev pub fused_levels : Program → ℕ → ℕ → List Plan → Levels
fused_levels p last levels plans =
    pruned (OfAll last) (all_terms last levels p plans (shared_levels_of plans last levels levels (root ∷ [])))

abbrev pub fused_draft : Program → List Made
fused_draft p = with_writers (fused_levels p (length p.terms - 1) (shared_levels p) (plans_of p))

-- the fused graph of a program, or the plain one where its terms aren't fused
abbrev pub fus : Program → Graph
fus p = cond (is_fused p) (graph_of (fused_draft p)) (low p)
