-- Terms as the rules of labels and the lowering see them.
use Rattle.std.specs.Prelude.{◌≤◌, ℕ, suc, Bool, false, cond, ◌&&◌, ◌||◌, not, List, [], ◌∷◌, length, get_or, Some, None, if◌then◌else◌}
use Rattle.std.specs.List.{list_any, filter}
use mathlib.Core.List.{map}
use Rattle.sam_model.specs.declared.program.Factor.{Factor}
use Rattle.sam_model.specs.declared.program.Factor.TheVariants as factor
use Rattle.sam_model.specs.declared.program.Term.{Term}
use Rattle.sam_model.specs.declared.program.Program.{Program}
use Rattle.sam_model.specs.Lists.{below, is_in}
use Rattle.sam_model.specs.Denote.{loops_of}
use Rattle.sam_model.specs.Accepted.{is_access}
use Rattle.stream_model.specs.Terms.{mask_of, coefficient_of}
use Rattle.label_rules.specs.declared.plans.Access.{Access}
use Rattle.label_rules.specs.declared.plans.Plan.{Plan}

abbrev pub accesses_of : List ℕ → List Factor → List Access
accesses_of loops [] = []
accesses_of loops (factor.Access n vars ∷ factors) = record { tensor = n; has = mask_of loops vars } ∷ accesses_of loops factors
accesses_of loops (factor.Literal n ∷ factors) = accesses_of loops factors

-- a minus before the first term is a literal of it
abbrev pub has_literal : Bool → Term → Bool
has_literal first t = (first && t.minus) || list_any (λ f. not (is_access f)) t.factors

-- a term; the flag says whether it is the first
abbrev pub plan_of : Program → Bool → Term → Plan
plan_of p first t = record {
  on_left = map (λ v. is_in v p.left) (loops_of p t);
  accesses = accesses_of (loops_of p t) t.factors;
  coefficient = if has_literal first t then Some (coefficient_of first t) else None;
}

-- ---- which accesses have a loop

abbrev pub no_access : Access
no_access = record { tensor = 0; has = [] }

abbrev pub plan_access : Plan → ℕ → Access
plan_access t f = get_or t.accesses f no_access

-- access f has the d-th loop, counted from 0
abbrev pub has_loop : Plan → ℕ → ℕ → Bool
has_loop t d f = get_or (plan_access t f).has d false

-- the accesses that have it, and those that lack it, in their order
abbrev pub asked : Plan → ℕ → List ℕ
asked t d = filter (has_loop t d) (below (length t.accesses))

abbrev pub spared : Plan → ℕ → List ℕ
spared t d = filter (λ f. not (has_loop t d f)) (below (length t.accesses))

-- at most eight loops and eight accesses
pub record PlanIsSmall (t : Plan) : Type 0 where
  pub loops : length t.on_left ≤ 8
  pub accesses : length t.accesses ≤ 8

-- ---- which loops are on the left

-- of these loops, marked by whether they are on the left, those that are and those that aren't
abbrev pub left_marks : List Bool → ℕ
left_marks [] = 0
left_marks (mark ∷ marks) = cond mark (suc (left_marks marks)) (left_marks marks)

abbrev pub free_marks : List Bool → ℕ
free_marks [] = 0
free_marks (mark ∷ marks) = cond mark (free_marks marks) (suc (free_marks marks))
