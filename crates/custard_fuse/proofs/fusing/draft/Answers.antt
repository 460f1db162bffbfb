use Rattle.std.proofs.Common.{arith, ◌≡◌, ◌≤◌, ◌∙◌, sym, ap, subst, ℕ, List, length}
use Rattle.std.specs.List.{All}
use Rattle.stream_model.specs.Fused.{shared_levels}
use Rattle.label_rules.specs.declared.plans.Plan.{Plan}
use Rattle.label_rules.proofs.term.SmallPlans.{few_terms}
use Rattle.custard_fuse.proofs.FusedUnions.{plans-count}
use Rattle.custard_fuse.proofs.PlansFit.{plans_few, few_levels, plans_deep}
use Rattle.custard_fuse.proofs.fusing.draft.Goals as goal

pub overflow_cast-last : goal.overflow_cast-last
overflow_cast-last c =
    let few = few_terms c.args.p.now c.requires.accepted in
    let count : c.len.result ≡ length c.args.p.now.terms = c.len.ensures in
    omega (arith, few, count)

pub shared_levels-requires-clause-terms : goal.shared_levels-requires-clause-terms
shared_levels-requires-clause-terms c =
    subst (λ (ts : List Plan). length ts ≤ 16) (sym c.requires.plans) (plans_few c.args.p.now c.requires.accepted)

pub all_terms-requires-clause-deep : goal.all_terms-requires-clause-deep
all_terms-requires-clause-deep c =
    subst (λ (k : ℕ). All (λ (t : Plan). k ≤ length t.on_left) c.args.plans.now) (sym c.shared_levels-levels.ensures)
    (subst (λ (ts : List Plan). All (λ (t : Plan). shared_levels c.args.p.now ≤ length t.on_left) ts) (sym c.requires.plans)
    (plans_deep c.args.p.now c.requires.accepted c.requires.fused))

pub all_terms-requires-clause-terms : goal.all_terms-requires-clause-terms
all_terms-requires-clause-terms c = ap (λ (ts : List Plan). length ts) c.requires.plans ∙ plans-count c.args.p.now

pub all_terms-requires-clause-few : goal.all_terms-requires-clause-few
all_terms-requires-clause-few c = few_terms c.args.p.now c.requires.accepted

pub pruned-requires : goal.pruned-requires
pruned-requires c =
    let few = few_levels c.args.p.now c.requires.accepted c.requires.fused in
    let count : length c.in_ok-all.all.coordinates ≡ c.shared_levels-levels.result = c.in_ok-all.ensures.coordinates in
    let levels : c.shared_levels-levels.result ≡ shared_levels c.args.p.now = c.shared_levels-levels.ensures in
    record { few = omega (arith, few, count, levels) }

pub with_writers-requires : goal.with_writers-requires
with_writers-requires c =
    let few = few_levels c.args.p.now c.requires.accepted c.requires.fused in
    let count : length c.in_ok-all.all.coordinates ≡ c.shared_levels-levels.result = c.in_ok-all.ensures.coordinates in
    let levels : c.shared_levels-levels.result ≡ shared_levels c.args.p.now = c.shared_levels-levels.ensures in
    let same : length c.in_ok-pruned.pruned.coordinates ≡ length c.in_ok-all.all.coordinates = c.in_ok-pruned.ensures.count in
    omega (arith, few, count, levels, same)
