use Rattle.sam_chain.proofs.RunLemmas.{stands-first, first-view}
use Rattle.sam_chain.proofs.run.ChainRun.new.Goals as goal

pub invariant_of-result : goal.invariant_of-result
invariant_of-result c = stands-first _ _ _ c.len-left.ensures c.requires.some c.requires.follow c.requires.files

pub returns : goal.returns
returns c = first-view _ _ _ c.len-left.ensures c.requires.files
