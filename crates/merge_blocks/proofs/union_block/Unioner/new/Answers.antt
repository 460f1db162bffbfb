use Rattle.merge_blocks.proofs.MergeStands.{unite-starts}
use Rattle.merge_blocks.proofs.union_block.Unioner.new.Goals as goal

pub returns-clause-starts : goal.returns-clause-starts
returns-clause-starts c = unite-starts _ _ _ c.requires.payloads c.new.ensures.made
