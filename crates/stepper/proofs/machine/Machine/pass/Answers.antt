use Rattle.std.proofs.Common.{refl, false, ◌||◌}
use Rattle.block_core.proofs.Pouring.{always-err}
use Rattle.stepper.specs.Bursting.{OnwardsBy}
use Rattle.stepper.proofs.Turns.{shape_then, lists_same}
use Rattle.stepper.proofs.Rounds.{went_none, went_then, went_less}
use Rattle.stepper.proofs.machine.Machine.pass.Goals as goal

pub loop-n-init : goal.loop-n-init
loop-n-init g c = record {
  onwards = went_none g.B.BlockStep c.args.self.now (g.T.Tap.told c.args.tap.now);
  same_shape = (refl, refl, refl);
  lists = c.requires.lists;
}

pub loop-n-preserved : goal.loop-n-preserved
loop-n-preserved g c =
    let on = went_then g.B.BlockStep c.args.self.now (g.T.Tap.told c.args.tap.now) c.loop-n.self (g.T.Tap.told c.loop-n.tap) c.burst.new.self (g.T.Tap.told c.burst.new.tap)
    c.loop-n.moved c.in_ok-went.went c.loop-n.invariant.onwards c.in_ok-went.ensures.onwards in
    record {
      onwards = rw c.any_of-moved.ensures on;
      same_shape = shape_then c.args.self.now c.loop-n.self c.burst.new.self c.loop-n.invariant.same_shape c.burst.ensures.same_shape;
      lists = lists_same _ _ (g.T.Tap.told c.burst.new.tap) c.loop-n.invariant.same_shape.1 c.burst.ensures.lists_stay;
    }

pub returns-in_err-went-clause-refused : goal.returns-in_err-went-clause-refused
returns-in_err-went-clause-refused g c =
    let on = went_then g.B.BlockStep c.args.self.now (g.T.Tap.told c.args.tap.now) c.loop-n.self (g.T.Tap.told c.loop-n.tap) c.burst.new.self (g.T.Tap.told c.burst.new.tap)
    c.loop-n.moved false c.loop-n.invariant.onwards c.in_err-went.ensures.refused in
    let part : OnwardsBy g.B.BlockStep c.args.self.now (g.T.Tap.told c.args.tap.now) c.burst.new.self (g.T.Tap.told c.burst.new.tap) false =
    went_less g.B.BlockStep c.args.self.now (g.T.Tap.told c.args.tap.now) c.burst.new.self (g.T.Tap.told c.burst.new.tap) (c.loop-n.moved || false) on in
    always-err _ part
