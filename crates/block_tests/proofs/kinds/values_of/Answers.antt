use Rattle.block_tests.proofs.kinds.values_of.Goals as goal

pub outputs_of-requires : goal.outputs_of-requires
outputs_of-requires c = c.new-writer.ensures.starts _ c.requires
