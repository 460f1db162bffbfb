use Rattle.stepper.proofs.machine.Machine.step.Goals as goal

pub returns-clause-sure : goal.returns-clause-sure
returns-clause-sure g c = λ may. c.act.ensures.sure (may c.stands.ensures)
