use Rattle.std.proofs.Common.{rules, arith, ◌≡◌, ◌≤◌, ◌+◌, ◌-◌, ◌∙◌, ap, length, take, drop}
use Rattle.std.proofs.lemmas.List.{take_rest, length-drop, length-take-le}
use Rattle.std.proofs.lemmas.List.Elements.{All-same, All-drop}
use Rattle.std.proofs.lemmas.Result.{IfOk-weaker}
use Rattle.label_rules.specs.Plans.{PlanIsSmall}
use Rattle.custard_lower.specs.declared.nests.Nest.{Nest}
use Rattle.custard_fuse.specs.Sharing.{factors, all_factors, scanned_terms}
use Rattle.custard_fuse.proofs.TermSlices.{first_and_others, scanned_more, scanned_so}
use Rattle.custard_fuse.proofs.sharing.Fusing.+scan_terms.Goals as goal

pub scan_terms-requires : goal.scan_terms-requires
scan_terms-requires t c =
    let ts = c.args.plans.now in
    let rs = c.args.references.now in
    let one = c.plan-item.result in
    let k = c.len-factors.result in
    let some = c.in-len1-up.len_at_least in
    let others = take_rest ts 1 in
    let all = ap all_factors (first_and_others ts one some c.plan-item.is) in
    let later = ap all_factors others in
    let many = ap length others ∙ length-drop 1 ts in
    let met = ap length (take_rest rs k) ∙ length-drop k rs in
    let count : k ≡ factors one = c.len-factors.ensures in
    let own : length rs ≡ all_factors ts = c.requires.references in
    let few : c.args.n + length ts ≤ 16 = c.requires.few in (
      search rules,
      (
        All-same PlanIsSmall _ (drop 1 ts) others (All-drop PlanIsSmall 1 ts c.requires.small),
        (
          omega (arith, many, few, some),
          (c.requires.within, omega (arith, met, later, own, all, count)),
        ),
      ),
    )

pub returns-clause-scanned : goal.returns-clause-scanned
returns-clause-scanned t c =
    let last = c.args.self.now.last in
    let levels = c.args.self.now.levels in
    let ts = c.args.plans.now in
    let rs = c.args.references.now in
    let k = c.len-factors.result in
    let more = c.in_ok-more.more in
    IfOk-weaker c.scan_terms.result
    (λ (all : Nest). all ≡ scanned_terms last levels c.args.d (c.args.n + 1) (take (length ts - 1) (drop 1 ts)) (take (length rs - k) (drop k rs)) more)
    (λ (all : Nest). all ≡ scanned_terms last levels c.args.d c.args.n ts rs c.args.scanned)
    (λ all x.
    x ∙ scanned_more last levels c.args.d c.args.n ts c.plan-item.result rs c.args.scanned more c.in-len1-up.len_at_least c.plan-item.is k
    c.len-factors.ensures c.in_ok-more.ensures.scanned)
    c.scan_terms.ensures.scanned

pub returns-clause-count : goal.returns-clause-count
returns-clause-count t c =
    let ts = c.args.plans.now in
    let rs = c.args.references.now in
    let term = c.plan-item.result in
    let k = c.len-factors.result in
    let later = ap all_factors (take_rest ts 1) in
    let all = ap all_factors (first_and_others ts term c.in-len1-up.len_at_least c.plan-item.is) in
    let count : k ≡ factors term = c.len-factors.ensures in
    let own : length rs ≡ all_factors ts = c.requires.references in
    let taken = length-take-le k rs (omega (arith, own, all, count)) in
    let one =
    scanned_so c.args.self.now.last c.args.self.now.levels c.args.d c.args.n term (take k rs) c.args.scanned c.in_ok-more.more c.in_ok-more.ensures.scanned in
    IfOk-weaker c.scan_terms.result
    (λ (n : Nest). length n.references ≡ length c.in_ok-more.more.references + all_factors (take (length ts - 1) (drop 1 ts)))
    (λ (n : Nest). length n.references ≡ length c.args.scanned.references + all_factors ts)
    (λ n x. omega (arith, x, later, all, one, taken, count))
    c.scan_terms.ensures.count
