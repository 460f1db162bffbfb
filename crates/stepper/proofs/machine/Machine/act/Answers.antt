use Rattle.std.proofs.Common.{◌∙◌, refl}
use Rattle.stepper.proofs.Stepping.{take_sure, put_sure, put_told}
use Rattle.graph.specs.Standing.{block_moves}
use Rattle.stepper.proofs.Wishes.{wish_finished}
use Rattle.stepper.proofs.machine.Machine.act.Goals as goal

pub returns-in-Take-clause-moved : goal.returns-in-Take-clause-moved
returns-in-Take-clause-moved g c = λ z. c.take.ensures.moved z (g.T.Tap.told c.args.tap.now)

pub returns-in-Finished-clause-ended : goal.returns-in-Finished-clause-ended
returns-in-Finished-clause-ended g c = λ z. (
  refl,
  refl,
  λ storages gr caps s h.
      wish_finished (block_moves storages gr c.args.block) (s c.args.block) (h.kept.within c.args.block)
      (c.requires.wishes storages gr caps s h ∙ c.in-Finished.is),
)

pub returns-in-Take-clause-sure : goal.returns-in-Take-clause-sure
returns-in-Take-clause-sure g c = λ may.
    c.take.ensures.sure (take_sure g.B.BlockStep c.args.block (g.T.Tap.may_refuse c.args.tap.now) c.args.self.now c.in-Take.port
    (λ storages gr caps s h. c.requires.wishes storages gr caps s h ∙ c.in-Take.is) may)

pub returns-in-Put-clause-sure : goal.returns-in-Put-clause-sure
returns-in-Put-clause-sure g c = λ may.
    c.put.ensures.sure
    (put_sure g.B.BlockStep c.args.block (g.T.Tap.may_refuse c.args.tap.now) c.args.self.now c.in-Put.port c.in-Put.t
    (λ storages gr caps s h. c.requires.wishes storages gr caps s h ∙ c.in-Put.is) may)
    (put_told g.B.BlockStep c.args.block (g.T.Tap.may_refuse c.args.tap.now) c.args.self.now c.in-Put.port c.in-Put.t
    (λ storages gr caps s h. c.requires.wishes storages gr caps s h ∙ c.in-Put.is) may)
