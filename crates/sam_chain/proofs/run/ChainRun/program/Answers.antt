use Rattle.std.proofs.Common.{◌≡◌, Some, slice_get}
use Rattle.sam_chain.proofs.RunLemmas.{next-accepted}
use Rattle.sam_chain.proofs.run.ChainRun.program.Goals as goal

pub returns-clause-accepted : goal.returns-clause-accepted
returns-clause-accepted c =
    next-accepted _ _ _ _ _ c.self.invariant (rw (c.next.ensures, ← c.self.view_is) at c.get.ensures)
