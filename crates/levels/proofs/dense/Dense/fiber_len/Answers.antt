use Rattle.levels.proofs.ReadLemmas.{dense-fiber_len}
use Rattle.levels.proofs.dense.Dense.fiber_len.Goals as goal

pub returns : goal.returns
returns c = dense-fiber_len c.args.self.now.size c.args.self.now.parents c.args.r c.requires
