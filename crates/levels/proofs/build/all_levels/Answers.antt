-- One level after another.
use Rattle.std.proofs.Common.{suc, length, sym, arith, ◌∙◌, rules}
use Rattle.std.proofs.lemmas.List.{length-map}
use Rattle.levels.specs.Rows.{row_entry, of_rows}
use Rattle.levels.proofs.LoopLemmas.{made-none, made-more}
use Rattle.levels.proofs.build.all_levels.Goals as goal

pub loop-place-init : goal.loop-place-init
loop-place-init c =
    let made = made-none (of_rows c.args.t.now c.args.rows.now) c.new-levels.result.items c.in_ok-at.at.count c.in_ok-at.at.ranks.items
    c.new-levels.ensures.items c.in_ok-at.ensures.one c.in_ok-at.ensures.ranked (c.in_ok-at.ensures.all ∙ sym (length-map c.args.rows.now (row_entry (length c.args.t.now.order)))) in
    record { children = made.children; counts = made.counts; placed = made.placed; few = made.few }

pub loop-place-preserved : goal.loop-place-preserved
loop-place-preserved c =
    let made = made-more (of_rows c.args.t.now c.args.rows.now) c.loop-place.place c.loop-place.levels.items c.push.new.self.items c.in_ok-level.level
    c.loop-place.at.count c.in_ok-level.next.count c.loop-place.at.ranks.items c.in_ok-level.next.ranks.items
    c.loop-place.invariant.children c.loop-place.invariant.counts c.loop-place.invariant.few c.in_ok-push.ensures.items
    c.in_ok-level.ensures.children c.in_ok-level.ensures.counted c.in_ok-level.ensures.placed c.in_ok-level.next.small in
    record { children = made.children; counts = made.counts; placed = made.placed; few = made.few }

pub returns-in_err-level-clause-many : goal.returns-in_err-level-clause-many
returns-in_err-level-clause-many c =
    λ e. (suc c.loop-place.place, omega arith, c.in_err-level.ensures.many (search rules))
