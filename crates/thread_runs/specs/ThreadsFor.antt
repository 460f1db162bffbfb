-- Which graphs may have a thread for every block.
use Rattle.std.specs.Prelude.{Result, Ok, Err, length, nat_lt, if◌then◌else◌}
use Rattle.sam_base.specs.declared.faults.Fault.{Fault}
use Rattle.sam_base.specs.declared.faults.Fault.TheVariants.{TooManyBlocks}
use Rattle.graph.specs.declared.graphs.Graph.{Graph}
use Rattle.thread_runs.specs.declared.TheConstants.{THREADS_MOST}

-- the graph, unless it has more blocks than there may be threads
abbrev pub threads_for : Graph → Result Graph Fault
threads_for g = if nat_lt THREADS_MOST (length g.blocks) then Err (TooManyBlocks (length g.blocks)) else Ok g
