use Rattle.std.proofs.Common.{arith}
use Rattle.tns_io.proofs.SpreadLemmas.{spread-least}
use Rattle.tns_io.proofs.closing.spreading.spread_count.Goals as goal

pub returns-clause-many : goal.returns-clause-many
returns-clause-many c =
    λ none.
    let least = spread-least c.args.declared.now c.loop-count.level c.loop-count.count c.requires.formed in
    let same = c.loop-count.invariant.same in
    omega (arith, least, same, c.loop-count-test.false)
