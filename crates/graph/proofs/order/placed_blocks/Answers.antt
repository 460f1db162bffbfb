use Rattle.std.proofs.Common.{arith, sym, ◌∙◌}
use Rattle.std.proofs.lemmas.List.{get_or_read}
use Rattle.graph.proofs.Placing.{all-wait, past-more}
use Rattle.graph.proofs.Placed.{all-placed, all-forwards}
use Rattle.graph.proofs.order.placed_blocks.Goals as goal

pub loop-next-preserved : goal.loop-next-preserved
loop-next-preserved c = record {
  kept = c.in_ok-pass_on.ensures.kept;
  wait = all-wait c.args.g.now c.loop-next.placing.order.items c.pass_on.new.self.order.items c.loop-next.placing.progress.items c.pass_on.new.self.progress.items
      c.in_ok-pass_on.ensures.later c.loop-next.invariant.wait;
  past = past-more c.args.g.now c.loop-next.placing.order.items c.pass_on.new.self.order.items c.loop-next.placing.progress.items c.pass_on.new.self.progress.items
      c.loop-next.next c.loop-next.invariant.kept c.in_ok-pass_on.ensures.later (omega (arith, c.loop-next-test.true, c.len.ensures)) c.loop-next.invariant.past
      (λ r q l h e. c.in_ok-pass_on.ensures.past r q l h (e ∙ sym (get_or_read c.loop-next.placing.order.items c.loop-next.next c.index-b.result.now (omega (arith, c.loop-next-test.true, c.len.ensures)) c.index-b.ensures 0)));
  within = omega (arith, c.loop-next-test.true, c.len.ensures, c.in_ok-pass_on.ensures.later.longer);
}

pub returns-clause-forward : goal.returns-clause-forward
returns-clause-forward c = all-forwards c.args.g.now c.loop-next.placing.order.items c.loop-next.placing.progress.items c.requires.joined c.loop-next.invariant.kept

pub returns-clause-all : goal.returns-clause-all
returns-clause-all c =
    all-placed c.args.g.now c.loop-next.placing.order.items c.loop-next.placing.progress.items c.loop-next.next c.requires.joined
    c.loop-next.invariant.kept c.loop-next.invariant.wait c.loop-next.invariant.past (omega (arith, c.loop-next-test.false, c.len.ensures))
