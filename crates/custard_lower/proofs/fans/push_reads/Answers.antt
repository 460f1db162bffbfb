use Rattle.std.proofs.Common.{ap}
use Rattle.custard_lower.specs.DraftGraph.{port_read}
use Rattle.custard_lower.proofs.draft.Pushes.{item-pushed}
use Rattle.custard_lower.proofs.fans.push_reads.Goals as goal

pub loop-port-preserved : goal.loop-port-preserved
loop-port-preserved c =
    item-pushed (port_read c.args.block c.args.ins.now) c.args.reads.now.items c.loop-port.reads.items c.push.new.self.items
    c.loop-port.port (port_read c.args.block c.as_slice-output-items.result.now c.loop-port.port) c.loop-port.invariant c.in_ok-push.ensures.items
    (ap (λ ins. port_read c.args.block ins c.loop-port.port) c.as_slice-output-items.ensures)
