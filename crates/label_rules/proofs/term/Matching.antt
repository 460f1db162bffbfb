-- A plan, and the term of a program over stored tensors that it stands for.
use Rattle.std.specs.Prelude.{◌≡◌, ◌<◌, ◌≤◌, ℕ, true, false, List, ◌∷◌, ◌++◌, length, get_or, Option, Some, None}
use mathlib.Core.List.{map}
use Rattle.sam_model.specs.Children.{Ranked, ranked}
use Rattle.sam_model.specs.Denote.{Loop}
use Rattle.stream_model.specs.Terms.{TermData, access_at}
use Rattle.stream_model.specs.Trees.{kept_sizes}
use Rattle.stream_model.specs.Masks.{AllFit}
use Rattle.graph.specs.Meaning.{stored_at}
use Rattle.label_rules.specs.declared.plans.Plan.{Plan}
use Rattle.label_rules.specs.Plans.{plan_access}
use Rattle.label_rules.proofs.laws.ProductTrees.{AllMasked}

-- where there is no literal the coefficient is 1
abbrev pub IsCoefficient : Option ℕ → ℕ → Type 0
IsCoefficient None c = c ≡ 1
IsCoefficient (Some k) c = k ≡ c

-- The accesses of the plan are those of the term, of tensors that are stored; every loop has an access.
pub record Matches (storages : List Ranked) (t : TermData) (plan : Plan) : Type 0 where
  pub number : length plan.accesses ≡ length t.accesses
  pub has : (f : ℕ) → (plan_access plan f).has ≡ (access_at t.accesses f).has
  pub there : (f : ℕ) → f < length t.accesses → (plan_access plan f).tensor < length storages
  pub stored : (f : ℕ) → f < length t.accesses
      → stored_at storages (plan_access plan f).tensor ≡ ranked (access_at t.accesses f).tensor
  pub marks : plan.on_left ≡ map (λ l. l.1) t.loops
  pub coefficient : IsCoefficient plan.coefficient t.coefficient
  pub some_access : 0 < length t.accesses
  pub some_loop : 0 < length t.loops
  pub few_accesses : length t.accesses ≤ 8
  pub few_loops : length t.loops < 9
  pub fit : AllFit t
  pub long : AllMasked t
  pub used : (d : ℕ) → d < length t.loops
      → (f : ℕ) × (f < length t.accesses) × (get_or (access_at t.accesses f).has d false ≡ true)
  -- few levels come after a loop that is reduced
  pub shallow : (before : List Loop) (s : ℕ) (after : List Loop) → t.loops ≡ before ++ (s, false) ∷ after
      → length (kept_sizes after) ≤ 2
