-- A rank is the parent's times the size plus the coordinate.
use Rattle.std.proofs.Common.{◌≡◌, ◌+◌, ◌*◌, ◌<◌, length, get_or, arith, ◌∙◌, ap, ℕ}
use Rattle.std.proofs.lemmas.List.{take_all}
use Rattle.std.proofs.lemmas.Grind.{common_steps}
use mathlib.Core.List.{map}
use Rattle.levels.specs.Rows.{row_pairs}
use Rattle.levels.proofs.Growth.{dense-more, dense-fits}
use Rattle.levels.proofs.RowLemmas.{length-row_pairs, row_pairs-at}
use Rattle.levels.proofs.build.dense_level.Goals as goal

-- a row's pair, as it was read
read : {r c a b : ℕ} {p : ℕ × ℕ} → p ≡ (a, b) → r ≡ a → c ≡ b → p ≡ (r, c)
read e f g = cc

pub overflow_cast-from : goal.overflow_cast-from
overflow_cast-from c =
    let long = length-row_pairs c.args.at.now.ranks.items c.args.place c.args.rows.now c.requires.all in
    let inside : c.loop-n.n < length (row_pairs c.args.at.now.ranks.items c.args.place c.args.rows.now) = omega arith in
    let rank : c.from.result ≡ get_or c.args.at.now.ranks.items c.loop-n.n 0 = grind (arith, common_steps) in
    let fits = dense-fits (row_pairs c.args.at.now.ranks.items c.args.place c.args.rows.now) c.loop-n.n c.args.size c.args.at.now.count c.from.result c.from-in-loop-n.result 16777216 inside
    (read (row_pairs-at c.args.at.now.ranks.items c.args.place c.args.rows.now c.loop-n.n _ c.requires.all c.loop-n-test.true) rank c.from-in-loop-n.ensures)
    c.requires.inside c.if-count-gt-POSITIONS_MOST.false in
    omega arith

pub loop-n-preserved : goal.loop-n-preserved
loop-n-preserved c =
    let long = length-row_pairs c.args.at.now.ranks.items c.args.place c.args.rows.now c.requires.all in
    let inside : c.loop-n.n < length (row_pairs c.args.at.now.ranks.items c.args.place c.args.rows.now) = omega arith in
    let rank : c.from.result ≡ get_or c.args.at.now.ranks.items c.loop-n.n 0 = grind (arith, common_steps) in
    dense-more (row_pairs c.args.at.now.ranks.items c.args.place c.args.rows.now) c.loop-n.n c.args.size c.from.result c.from-in-loop-n.result c.loop-n.ranks.items c.push.new.self.items inside
    (read (row_pairs-at c.args.at.now.ranks.items c.args.place c.args.rows.now c.loop-n.n _ c.requires.all c.loop-n-test.true) rank c.from-in-loop-n.ensures)
    c.loop-n.invariant c.in_ok-push.ensures.items

pub returns-clause-ranks : goal.returns-clause-ranks
returns-clause-ranks c =
    let long = length-row_pairs c.args.at.now.ranks.items c.args.place c.args.rows.now c.requires.all in
    c.loop-n.invariant ∙ ap (map (λ x. x.0 * c.args.size + x.1)) (take_all c.loop-n.n (row_pairs c.args.at.now.ranks.items c.args.place c.args.rows.now) (omega arith))
