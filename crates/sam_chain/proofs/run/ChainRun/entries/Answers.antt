use Rattle.sam_chain.proofs.RunLemmas.{next-fits}
use Rattle.sam_chain.proofs.run.ChainRun.entries.Goals as goal

pub returns-clause-fit : goal.returns-clause-fit
returns-clause-fit c = rw (← c.self.view_is) (next-fits _ _ _ _ c.self.invariant)
