use Rattle.block_tests.proofs.kinds.level_of.Goals as goal

pub outputs_of-requires : goal.outputs_of-requires
outputs_of-requires c = c.in_ok-writer.ensures.starts _ c.requires
