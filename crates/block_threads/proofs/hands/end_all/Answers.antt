use Rattle.std.proofs.Common.{◌∙◌}
use Rattle.block_threads.proofs.Sending.{flushed_onwards, onwards_channels}
use Rattle.block_threads.proofs.hands.end_all.Goals as goal

pub returns-clause-same : goal.returns-clause-same
returns-clause-same g c =
    onwards_channels c.lose_all.new.outs c.flush.new.outs (flushed_onwards c.lose_all.new.outs c.flush.new.outs c.flush.ensures) ∙ c.lose_all.ensures.same
