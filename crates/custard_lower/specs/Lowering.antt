-- The blocks of a program, in the order in which they are made.
use Rattle.std.specs.Prelude.{ℕ, suc, true, false, List, [], ◌∷◌, ◌++◌, length, get_or}
use mathlib.Core.List.{map}
use Rattle.sam_model.specs.declared.program.Term.{Term}
use Rattle.sam_model.specs.declared.program.Program.{Program}
use Rattle.sam_model.specs.Lists.{below}
use Rattle.stream_model.specs.declared.labels.Tree.{Tree}
use Rattle.stream_model.specs.declared.labels.Tree.TheVariants.{Reduced, Joined}
use Rattle.graph.specs.declared.graphs.Kind.TheVariants as kind
use Rattle.custard_lower.specs.declared.drafts.Made.{Made}
use Rattle.custard_lower.specs.declared.trees.TermTrees.{TermTrees}
use Rattle.custard_lower.specs.declared.trees.TermTrees.TheVariants.{Own}
use Rattle.custard_lower.specs.declared.trees.PrunedTrees.TheVariants.{OfTerm}
use Rattle.label_rules.specs.declared.plans.Plan.{Plan}
use Rattle.label_rules.specs.Labels.{no_label}
use Rattle.label_rules.specs.Plans.{plan_of, free_marks}
use Rattle.custard_lower.specs.Nests.{Nest, nest}
use Rattle.custard_lower.specs.Values.{valued}
use Rattle.custard_lower.specs.Reductions.{Levels, reduced, pruned}
use Rattle.custard_lower.specs.Unions.{Part, joined_sides}

-- the root, whose output is every factor's reference before the first loop
abbrev pub root : Made
root = record { kind = kind.Root; ins = []; labels = no_label ∷ [] }

-- after a term's loops, its values, and the sums over its loops that aren't on the left
abbrev pub summed_nest : TermTrees → Plan → Nest → Levels
summed_nest trees t n =
    let v = valued trees t n.made n.references in
    reduced trees t.on_left (record { made = v.made; coordinates = n.coordinates; values = v.values })

abbrev pub summed_levels : ℕ → Plan → List Made → Levels
summed_levels term t made = summed_nest (Own term) t (nest (Own term) t (length t.on_left) made)

abbrev pub term_levels : ℕ → Plan → List Made → Levels
term_levels term t made = pruned (OfTerm term (free_marks t.on_left)) (summed_levels term t made)

-- ---- the writers

abbrev pub level_writer : List ℕ → ℕ → Made
level_writer coordinates d = record { kind = kind.WriteLevel (suc d); ins = get_or coordinates d 0 ∷ []; labels = [] }

abbrev pub value_writer : ℕ → Made
value_writer values = record { kind = kind.WriteValue; ins = values ∷ []; labels = [] }

abbrev pub with_writers : Levels → List Made
with_writers l = (l.made ++ map (level_writer l.coordinates) (below (length l.coordinates))) ++ value_writer l.values ∷ []

-- ---- all terms

-- the tree of the first level of a term, and of a join
abbrev pub first_level_tree : ℕ → Plan → Tree
first_level_tree term t = Reduced term (free_marks t.on_left) 1 1

-- what is joined, without its blocks; the tree is that of its first level
abbrev pub part : Tree → Levels → Part
part tree l = record { tree = tree; coordinates = l.coordinates; values = l.values }

-- term number n joined to those before it, whose first level has this tree
abbrev pub with_term : Program → ℕ → Tree → Levels → Term → Levels
with_term p n tree l t =
    let plan = plan_of p false t in
    let more = term_levels n plan l.made in
    joined_sides n t.minus more.made (part tree l) (part (first_level_tree n plan) more)

-- the terms from number n on, each joined to those before it
abbrev pub with_terms : Program → ℕ → Tree → Levels → List Term → Levels
with_terms p n tree l [] = l
with_terms p n tree l (t ∷ ts) = with_terms p (suc n) (Joined n 1) (with_term p n tree l t) ts

abbrev pub draft_of : Program → List Term → List Made
draft_of p [] = []
draft_of p (t ∷ ts) =
    let plan = plan_of p true t in
    with_writers (with_terms p 1 (first_level_tree 0 plan) (term_levels 0 plan (root ∷ [])) ts)

abbrev pub program_draft : Program → List Made
program_draft p = draft_of p p.terms
