use Rattle.std.proofs.Common.{rules, arith, ◌≡◌, ◌≤◌, ◌+◌, ◌-◌, ◌∙◌, ap, length, take, drop}
use Rattle.std.proofs.lemmas.List.{take_rest, length-drop}
use Rattle.std.proofs.lemmas.List.Elements.{All-same, All-drop}
use Rattle.std.proofs.lemmas.Result.{IfOk-weaker}
use Rattle.label_rules.specs.declared.plans.Plan.{Plan}
use Rattle.label_rules.specs.Plans.{PlanIsSmall}
use Rattle.custard_lower.specs.declared.reductions.Levels.{Levels}
use Rattle.custard_fuse.specs.Sharing.{factors, all_factors}
use Rattle.custard_fuse.specs.Fusing.{added_terms}
use Rattle.custard_fuse.proofs.TermSlices.{first_and_others, added_more}
use Rattle.custard_fuse.proofs.sharing.Fusing.+added_terms.Goals as goal

pub added_terms-requires : goal.added_terms-requires
added_terms-requires t c =
    let ts = c.args.plans.now in
    let rs = c.args.references.now in
    let one = c.plan-item.result in
    let k = c.len-factors.result in
    let levels = c.args.self.now.levels in
    let some = c.in-len1-up.len_at_least in
    let others = take_rest ts 1 in
    let all = ap all_factors (first_and_others ts one some c.plan-item.is) in
    let later = ap all_factors others in
    let many = ap length others ∙ length-drop 1 ts in
    let met = ap length (take_rest rs k) ∙ length-drop k rs in
    let count : k ≡ factors one = c.len-factors.ensures in
    let own : length rs ≡ all_factors ts = c.requires.references in
    let terms : c.args.n + length ts ≡ length c.args.p.now.terms = c.requires.terms in (
      search rules,
      (
        All-same PlanIsSmall _ (drop 1 ts) others (All-drop PlanIsSmall 1 ts c.requires.small),
        (
          All-same (λ (u : Plan). levels ≤ length u.on_left) _ (drop 1 ts) others (All-drop (λ (u : Plan). levels ≤ length u.on_left) 1 ts c.requires.deep),
          (
            omega (arith, many, terms, some),
            (c.requires.few, (omega (arith, met, later, own, all, count), c.in_ok-more.ensures.coordinates)),
          ),
        ),
      ),
    )

pub returns-clause-added : goal.returns-clause-added
returns-clause-added t c =
    let last = c.args.self.now.last in
    let levels = c.args.self.now.levels in
    let p = c.args.p.now in
    let ts = c.args.plans.now in
    let rs = c.args.references.now in
    let k = c.len-factors.result in
    let more = c.in_ok-more.more in
    IfOk-weaker c.added_terms.result
    (λ (all : Levels). all ≡ added_terms last levels p (c.args.n + 1) (take (length ts - 1) (drop 1 ts)) (take (length rs - k) (drop k rs)) more)
    (λ (all : Levels). all ≡ added_terms last levels p c.args.n ts rs c.args.levels)
    (λ all x.
    x ∙ added_more last levels p ts c.plan-item.result rs c.in-len1-up.len_at_least c.plan-item.is c.args.n c.args.levels more k
    c.len-factors.ensures c.in_ok-more.ensures.added)
    c.added_terms.ensures.added
