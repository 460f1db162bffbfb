use Rattle.std.proofs.Common.{ap, Ok}
use Rattle.stepper.proofs.Turns.{turned_blocked, turned_ended}
use Rattle.stepper.proofs.machine.Machine.attempt.Goals as goal

pub returns-in-Ended-clause-turned : goal.returns-in-Ended-clause-turned
returns-in-Ended-clause-turned g c =
    turned_ended g.B.BlockStep c.args.block c.args.self.now (g.T.Tap.told c.args.tap.now) c.act.new.self (g.T.Tap.told c.act.new.tap)
    (c.in_ok-act.ensures.ended (ap Ok c.in-Ended.is))

pub returns-in-Blocked-clause-turned : goal.returns-in-Blocked-clause-turned
returns-in-Blocked-clause-turned g c =
    turned_blocked g.B.BlockStep c.args.block _ _ c.args.self.now (g.T.Tap.told c.args.tap.now) c.act.new.self (g.T.Tap.told c.act.new.tap)
    (c.in_ok-act.ensures.blocked _ _ (ap Ok c.in-Blocked.is))
