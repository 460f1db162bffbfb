use Rattle.shape_blocks.proofs.DropFiberRuns.{drop-fiber-starts}
use Rattle.shape_blocks.proofs.drop_fiber.FiberDropper.new.Goals as goal

pub returns-clause-starts : goal.returns-clause-starts
returns-clause-starts c = drop-fiber-starts
