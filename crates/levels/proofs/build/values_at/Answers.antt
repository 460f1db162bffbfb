-- Each row adds its value at its rank.
use Rattle.std.proofs.Common.{◌≡◌, ◌+◌, ◌%◌, ◌^◌, [], set, ◌<◌, length, get_or, replicate, arith, rules, ◌∙◌, ap, ℕ}
use Rattle.std.proofs.lemmas.Grind.{common_steps}
use Rattle.levels.specs.Rows.{ranked_values}
use Rattle.levels.proofs.Growth.{Each-get}
use Rattle.levels.proofs.RowLemmas.{length-ranked_values, ranked_values-at}
use Rattle.levels.proofs.ValueLemmas.{values-more, values-none, values-all}
use Rattle.levels.proofs.build.values_at.Goals as goal

-- a row's rank, as it was read
read : {r a b : ℕ} {p : ℕ × ℕ} → p ≡ (a, b) → r ≡ a → p ≡ (r, b)
read e f = cc

pub loop-n-init : goal.loop-n-init
loop-n-init c =
    let zeros : c.in_ok-values.values.items ≡ replicate c.args.at.now.count 0 = search rules in
    zeros ∙ values-none c.args.at.now.count

pub loop-n-preserved : goal.loop-n-preserved
loop-n-preserved c =
    let long = length-ranked_values c.args.at.now.ranks.items c.args.rows.now c.requires.all in
    let inside : c.loop-n.n < length (ranked_values c.args.at.now.ranks.items c.args.rows.now) = omega arith in
    let rank : c.index.result.now ≡ get_or c.args.at.now.ranks.items c.loop-n.n 0 = grind (arith, common_steps) in
    let small : get_or c.args.at.now.ranks.items c.loop-n.n 0 < c.args.at.now.count
    = Each-get (λ r. r < c.args.at.now.count) c.args.at.now.ranks.items c.loop-n.n 0 (omega arith) c.requires.inside in
    let small' : c.index.result.now < c.args.at.now.count = omega arith in
    let was : c.index-in-loop-n.result.now ≡ get_or c.loop-n.values.items c.index.result.now 0 = grind (arith, common_steps) in
    values-more (ranked_values c.args.at.now.ranks.items c.args.rows.now) c.args.at.now.count c.loop-n.n c.index.result.now _ c.loop-n.values.items _ inside
    (read (ranked_values-at c.args.at.now.ranks.items c.args.rows.now c.loop-n.n _ c.requires.all c.loop-n-test.true) rank)
    small' c.loop-n.invariant
    (ap (λ t. set c.loop-n.values.items c.index.result.now ((t + (get_or c.args.rows.now c.loop-n.n record { coordinates = []; value = 0 }).value) % 2 ^ 64)) was)

pub returns : goal.returns
returns c =
    let long = length-ranked_values c.args.at.now.ranks.items c.args.rows.now c.requires.all in
    values-all (ranked_values c.args.at.now.ranks.items c.args.rows.now) c.args.at.now.count c.loop-n.n c.loop-n.values.items (omega arith) c.loop-n.invariant
