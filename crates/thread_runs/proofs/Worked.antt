-- Graphs of so many blocks, by hand.
use Rattle.std.proofs.Common.{◌≡◌, ℕ, [], replicate, refl}
use Rattle.std.specs.Prelude.{Ok, Err}
use Rattle.sam_base.specs.declared.faults.Fault.TheVariants.{TooManyBlocks}
use Rattle.graph.specs.declared.graphs.Graph.{Graph}
use Rattle.graph.specs.declared.graphs.Kind.TheVariants.{Root}
use Rattle.thread_runs.specs.ThreadsFor.{threads_for}

-- a graph of so many blocks, and no channel
abbrev roots : ℕ → Graph
roots n = record { blocks = replicate n (record { kind = Root; ins = []; outs = [] }); channels = [] }

no_blocks : threads_for (roots 0) ≡ Ok (roots 0)
no_blocks = refl

as_many_as_may_be : threads_for (roots 256) ≡ Ok (roots 256)
as_many_as_may_be = refl

one_too_many : threads_for (roots 257) ≡ Err (TooManyBlocks 257)
one_too_many = refl
