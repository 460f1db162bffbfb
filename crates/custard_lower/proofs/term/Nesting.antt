-- One level more of a nest.
use Rattle.std.proofs.Common.{◌≡◌, ◌∙◌, ℕ, ◌+◌, List, [], ◌∷◌, length, length-append, set, refl, add-one}
use Rattle.std.proofs.Math.ListN.{length-set}
use Rattle.custard_lower.specs.declared.drafts.Made.{Made}
use Rattle.custard_lower.specs.declared.trees.TermTrees.{TermTrees}
use Rattle.label_rules.specs.declared.plans.Plan.{Plan}
use Rattle.label_rules.specs.Plans.{asked, spared}
use Rattle.custard_lower.specs.Nests.{Nest, placed, level, nest}

-- numbers that are put at places leave the length as it is
pub length-placed : (references fs ws : List ℕ) → length (placed references fs ws) ≡ length references
length-placed references [] ws = refl
length-placed references (f ∷ fs) [] = refl
length-placed references (f ∷ fs) (w ∷ ws) = length-placed (set references f w) fs ws ∙ length-set references f w

module _ (trees : TermTrees) (t : Plan) where
  -- the nest with d + 1 levels is the one with d levels and a level more
  pub next_level : (d : ℕ) (made : List Made) → nest trees t (d + 1) made ≡ level trees t d (nest trees t d made)
  next_level d made = rw add-one refl

  -- a level has as many references
  pub references_kept : (d : ℕ) (n : Nest) → length (level trees t d n).references ≡ length n.references
  references_kept d n = length-placed _ (spared t d) _ ∙ length-placed n.references (asked t d) _

  -- a level has coordinates of its own
  pub levels_counted : (d : ℕ) (n : Nest) → length (level trees t d n).coordinates ≡ length n.coordinates + 1
  levels_counted d n = length-append n.coordinates (_ ∷ [])
