use Rattle.block_core.proofs.WorkedFits.{writelevel-fits, writevalue-fits}
use Rattle.block_tests.proofs.kinds.streams_are_written.Goals as goal

pub level_of-requires : goal.level_of-requires
level_of-requires g c = writelevel-fits

pub values_of-requires : goal.values_of-requires
values_of-requires g c = writevalue-fits
