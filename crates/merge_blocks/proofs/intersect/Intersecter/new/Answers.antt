use Rattle.merge_blocks.proofs.MergeStands.{meet-starts}
use Rattle.merge_blocks.proofs.intersect.Intersecter.new.Goals as goal

pub returns-clause-starts : goal.returns-clause-starts
returns-clause-starts c = meet-starts _ _ _ c.requires.payloads c.new.ensures.made
