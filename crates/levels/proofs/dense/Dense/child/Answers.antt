-- The rank of a child is below the number of children, which is small.
use Rattle.std.proofs.Common.{arith}
use Rattle.levels.proofs.ReadLemmas.{dense-child, dense-small}
use Rattle.levels.proofs.dense.Dense.child.Goals as goal

pub overflow_mul-result : goal.overflow_mul-result
overflow_mul-result c =
    let rank = dense-small c.args.self.now.size c.args.self.now.parents c.args.r c.args.n c.requires.parent c.requires.child in
    omega (arith, c.args.self.now.small)

pub overflow_add-result : goal.overflow_add-result
overflow_add-result c =
    let rank = dense-small c.args.self.now.size c.args.self.now.parents c.args.r c.args.n c.requires.parent c.requires.child in
    omega (arith, c.args.self.now.small)

pub returns : goal.returns
returns c = dense-child c.args.self.now.size c.args.self.now.parents c.args.r c.args.n c.requires.parent c.requires.child
