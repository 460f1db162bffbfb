use Rattle.std.proofs.Common.{map}
use Rattle.block_threads.specs.Wires.{wired_streams}
use Rattle.block_threads.proofs.run.run_graph.Given as goal

abbrev pub ghosts-run_on : goal.ghosts-run_on
ghosts-run_on g a = record { streams = wired_streams (map g.B.BlockStep.kind a.blocks.items) a.g.now }
