-- Where the two outermost differ, they decide.
use Rattle.std.proofs.Common.{arith, sym, ◌∙◌, ap}
use Rattle.std.specs.Ordering.{nat_cmp}
use Rattle.levels.proofs.SortLemmas.{outer-cmp}
use Rattle.levels.specs.Rows.{outer}
use Rattle.levels.proofs.rows.row_order.Goals as goal

pub returns-else-left-right : goal.returns-else-left-right
returns-else-left-right c =
    c.cmp-else-left-right.ensures ∙ ap (λ n. nat_cmp n c.outer-right.result) c.outer-left.ensures.number ∙ ap (λ n. nat_cmp (outer c.args.x.now.coordinates) n) c.outer-right.ensures.number
    ∙ outer-cmp c.args.x.now.coordinates c.args.y.now.coordinates (omega arith) (omega arith) c.outer-left.ensures.second c.outer-right.ensures.second
    (λ same. c.if-left-right.false (c.outer-left.ensures.number ∙ same ∙ sym c.outer-right.ensures.number))
