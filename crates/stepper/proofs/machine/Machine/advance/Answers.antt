use Rattle.std.proofs.Common.{false}
use Rattle.std.proofs.lemmas.Result.{IfOk-weaker, IfErr-weaker}
use Rattle.stepper.proofs.Rounds.{went_then, went_less}
use Rattle.stepper.proofs.machine.Machine.advance.Goals as goal

pub returns-clause-onwards : goal.returns-clause-onwards
returns-clause-onwards g c =
    let first = went_less g.B.BlockStep c.args.self.now (g.T.Tap.told c.args.tap.now) c.pass.new.self (g.T.Tap.told c.pass.new.tap) c.in_ok-pass.field-0 c.in_ok-pass.ensures.onwards in
    IfOk-weaker c.press.result _ _ (λ moved next. went_then g.B.BlockStep c.args.self.now (g.T.Tap.told c.args.tap.now) c.pass.new.self (g.T.Tap.told c.pass.new.tap) c.press.new.self (g.T.Tap.told c.press.new.tap) false moved first next) c.press.ensures.onwards

pub returns-clause-refused : goal.returns-clause-refused
returns-clause-refused g c =
    let first = went_less g.B.BlockStep c.args.self.now (g.T.Tap.told c.args.tap.now) c.pass.new.self (g.T.Tap.told c.pass.new.tap) c.in_ok-pass.field-0 c.in_ok-pass.ensures.onwards in
    IfErr-weaker c.press.result _ _ (λ e next. went_then g.B.BlockStep c.args.self.now (g.T.Tap.told c.args.tap.now) c.pass.new.self (g.T.Tap.told c.pass.new.tap) c.press.new.self (g.T.Tap.told c.press.new.tap) false false first next) c.press.ensures.refused
