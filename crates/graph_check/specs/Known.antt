-- What is kept of a program's terms.
use Rattle.std.specs.Prelude.{◌≡◌, ◌≤◌, ◌-◌, ℕ, length, get_or}
use Rattle.stream_model.specs.Labels.{result_sizes}
use Rattle.label_rules.specs.Plans.{PlanIsSmall}
use Rattle.label_rules.specs.TermLabels.{plan_at}
use Rattle.graph_check.specs.declared.rules.LabelRules.{LabelRules}

-- Each term's plan, and that of a term without factors for a term that isn't there; and the numbers are the program's
pub record PlansKnown (r : LabelRules) : Type 0 where
  pub plan : (t : ℕ) → get_or r.plans t r.none ≡ plan_at r.program.now t
  pub levels : r.levels ≡ length (result_sizes r.program.now)
  pub last : r.last ≡ length r.program.now.terms - 1
  pub few_levels : r.levels ≤ 8
  pub small : (t : ℕ) → PlanIsSmall (plan_at r.program.now t)
