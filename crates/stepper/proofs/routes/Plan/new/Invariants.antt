use Rattle.graph.specs.Wiring.{block}
use Rattle.stepper.specs.Routes.{table_of}
use Rattle.stepper.specs.AtState.{PortsListed}
use Rattle.stepper.proofs.routes.Plan.new.Given as goal

abbrev pub invariant-loop-block : goal.invariant-loop-block
invariant-loop-block l =
    PortsListed (table_of l.ins) l.block-index (λ b. (block l.fn.g b).ins)
    × PortsListed (table_of l.outs) l.block-index (λ b. (block l.fn.g b).outs)
