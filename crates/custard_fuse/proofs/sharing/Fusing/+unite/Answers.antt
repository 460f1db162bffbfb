use Rattle.std.proofs.Common.{rules, arith, ◌≡◌, ◌≤◌, ◌+◌, ◌-◌, ◌∙◌, sym, ap, length, take, drop}
use Rattle.std.proofs.lemmas.List.{take_rest, length-drop}
use Rattle.std.proofs.lemmas.List.FromFn.{length-range_with_len}
use Rattle.std.proofs.lemmas.Result.{IfOk-weaker}
use Rattle.custard_lower.specs.declared.nests.Nest.{Nest}
use Rattle.custard_fuse.specs.Sharing.{factors, all_factors, united}
use Rattle.custard_fuse.proofs.TermSlices.{first_and_others, rest_next, met_counted, united_more}
use Rattle.custard_fuse.proofs.SharedWalk.{factors-before}
use Rattle.custard_fuse.proofs.sharing.Fusing.+unite.Goals as goal

pub union-requires-clause-count : goal.union-requires-clause-count
union-requires-clause-count t c =
    met_counted c.args.self.now.plans.now c.args.e c.args.plans.now c.plan-item.result c.len-factors.result c.args.before.references c.args.references.now
    c.in-len1-up.len_at_least c.plan-item.is c.len-factors.ensures c.requires.rest c.requires.met c.requires.references

pub union-requires-clause-few : goal.union-requires-clause-few
union-requires-clause-few t c =
    let count = union-requires-clause-count t c in
    let within = factors-before (c.args.e + 1) c.args.self.now.plans.now in
    let few : all_factors c.args.self.now.plans.now ≤ 8 = c.requires.few in
    omega (arith, count, within, few)

pub unite-requires : goal.unite-requires
unite-requires t c =
    let plans = c.args.self.now.plans.now in
    let ts = c.args.plans.now in
    let one = c.plan-item.result in
    let k = c.len-factors.result in
    let parts = first_and_others ts one c.in-len1-up.len_at_least c.plan-item.is in
    let others = take_rest ts 1 in
    let count : k ≡ factors one = c.len-factors.ensures in
    let all = ap all_factors parts in
    let more = c.in_ok-more.ensures in
    let known =
    met_counted plans c.args.e ts one k c.args.before.references c.args.references.now c.in-len1-up.len_at_least c.plan-item.is count
    c.requires.rest c.requires.met c.requires.references in
    let many = ap length others ∙ length-drop 1 ts in
    let tops = ap length (take_rest c.args.coordinates.now 1) ∙ length-drop 1 c.args.coordinates.now in
    let met = ap length (take_rest c.args.references.now k) ∙ length-drop k c.args.references.now in
    let whole : length c.args.coordinates.now ≡ length ts = c.requires.coordinates in
    let own : length c.args.references.now ≡ all_factors ts = c.requires.references in
    let those : c.args.e + length ts ≡ length plans = c.requires.others in
    let later = ap all_factors others in
    let some = c.in-len1-up.len_at_least in (
      search rules,
      (
        c.requires.small,
        (
          c.requires.terms,
          (
            omega (arith, many, those, some),
            (
              others ∙ rest_next plans c.args.e one (drop 1 ts) (sym parts ∙ c.requires.rest),
              (
                c.requires.within,
                (
                  ap length more.coordinates,
                  (
                    ap length more.references ∙ length-range_with_len _ _ ∙ known,
                    (
                      omega (arith, tops, many, whole),
                      (
                        omega (arith, met, later, own, all, count),
                        c.requires.few,
                      ),
                    ),
                  ),
                ),
              ),
            ),
          ),
        ),
      ),
    )

pub returns-clause-united : goal.returns-clause-united
returns-clause-united t c =
    let plans = c.args.self.now.plans.now in
    let more = c.in_ok-more.ensures in
    let k = c.len-factors.result in
    let ts = c.args.plans.now in
    let cs = c.args.coordinates.now in
    let rs = c.args.references.now in
    IfOk-weaker c.unite.result
    (λ (all : Nest). all ≡ united plans c.args.d (c.args.e + 1) (take (length ts - 1) (drop 1 ts)) (take (length cs - 1) (drop 1 cs)) (take (length rs - k) (drop k rs)) c.in_ok-more.more)
    (λ (all : Nest). all ≡ united plans c.args.d c.args.e ts cs rs c.args.before)
    (λ all x.
    x ∙ united_more plans c.args.d c.args.e ts c.plan-item.result cs rs c.args.before c.in_ok-more.more c.in-len1-up.len_at_least c.plan-item.is k
    c.len-factors.ensures more.made more.coordinates more.references)
    c.unite.ensures.united
