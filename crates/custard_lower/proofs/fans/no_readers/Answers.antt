use Rattle.std.proofs.Common.{[]}
use Rattle.custard_lower.proofs.draft.Pushes.{item-pushed}
use Rattle.custard_lower.proofs.fans.no_readers.Goals as goal

pub loop-preserved : goal.loop-preserved
loop-preserved c =
    item-pushed (λ _. []) [] c.loop.readers.items c.push.new.self.items c.loop.counter c.new.result c.loop.invariant
    c.in_ok-push.ensures.items c.new.ensures
