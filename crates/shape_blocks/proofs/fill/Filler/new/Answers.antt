use Rattle.shape_blocks.proofs.FillRuns.{fill-starts}
use Rattle.shape_blocks.proofs.fill.Filler.new.Goals as goal

pub returns-clause-starts : goal.returns-clause-starts
returns-clause-starts c = fill-starts _ _ c.requires.payloads c.new.ensures.made
