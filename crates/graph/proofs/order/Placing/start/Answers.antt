use Rattle.std.proofs.Common.{arith}
use Rattle.graph.proofs.Placing.{wait-more}
use Rattle.graph.proofs.order.Placing.start.Goals as goal

pub loop-b-preserved : goal.loop-b-preserved
loop-b-preserved c = record {
  kept = c.in_ok-advance.ensures.kept;
  wait = wait-more c.args.g.now c.loop-b.placing.order.items c.advance.new.self.order.items c.loop-b.placing.progress.items c.advance.new.self.progress.items c.loop-b.b
      c.in_ok-advance.ensures.later (omega (arith, c.loop-b-test.true, c.len-b-end.ensures)) c.loop-b.invariant.wait (λ q h. (c.in_ok-advance.ensures.waits q h).0);
}
