-- The plans of an accepted program: how many there are, and that each has the levels that all terms share.
use Rattle.std.specs.Prelude.{◌≡◌, ◌<◌, ◌≤◌, true, length}
use Rattle.std.specs.List.{All}
use Rattle.std.proofs.Common.{arith, sym, subst}
use Rattle.std.proofs.lemmas.List.Elements.{All-from_get_or}
use Rattle.sam_model.specs.declared.program.Program.{Program}
use Rattle.sam_model.specs.Program.{accepted}
use Rattle.stream_model.specs.Fused.{shared_levels}
use Rattle.label_rules.specs.declared.plans.Plan.{Plan}
use Rattle.label_rules.proofs.term.SmallPlans.{few_terms}
use Rattle.custard_lower.proofs.term.PlanFacts.{is-small}
use Rattle.custard_fuse.specs.Sharing.{no_plan}
use Rattle.custard_fuse.specs.Fusing.{plans_of, is_fused}
use Rattle.custard_fuse.proofs.FusedPlans.{several, levels-within}
use Rattle.custard_fuse.proofs.FusedUnions.{plans-count, plan-is}

pub plans_few : (p : Program) → accepted p ≡ true → length (plans_of p) ≤ 16
plans_few p ok = let a = plans-count p in let b = few_terms p ok in omega (arith, a, b)

module _ (p : Program) (ok : accepted p ≡ true) (fused : is_fused p ≡ true) where
  -- there are few of them
  pub few_levels : shared_levels p ≤ 8
  few_levels =
      let inside : 0 < length p.terms = let k = several p ok fused in omega (arith, k) in
      let a = levels-within p ok fused 0 inside in
      let b = (is-small p ok 0 inside).loops in
      omega (arith, a, b)

  abbrev is_deep : Plan → Type 0
  is_deep t = shared_levels p ≤ length t.on_left

  pub plans_deep : All (λ (t : Plan). shared_levels p ≤ length t.on_left) (plans_of p)
  plans_deep =
      All-from_get_or is_deep (plans_of p) no_plan
      (λ n l.
      let inside : n < length p.terms = let c = plans-count p in omega (arith, c, l) in
      subst is_deep (sym (plan-is p n inside)) (levels-within p ok fused n inside))
