use Rattle.std.proofs.Common.{arith}
use Rattle.sam_model.specs.Expressions.{turned_term}
use Rattle.expand.proofs.MapInPlace.{partly-more}
use Rattle.expand.proofs.terms.turned.Goals as goal

pub loop-term-preserved : goal.loop-term-preserved
loop-term-preserved c =
    partly-more turned_term c.deref_mut-term-items.result.now c.loop-term.term-items c.loop-term.term-index c.term-item.result (omega arith) c.loop-term.invariant
