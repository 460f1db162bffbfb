use Rattle.any_block.specs.contracts.blocks.AnyBlockBlockStep.TheImpl.{ghosts}
use Rattle.any_block.proofs.Made.{Made}
use Rattle.any_block.proofs.assembly.assemble.Given as goal

abbrev pub invariant-loop-block : goal.invariant-loop-block
invariant-loop-block l = record {
  made : Made ghosts.kind ghosts.stands l.storages l.g l.block-index l.blocks.items;
}
