use Rattle.std.proofs.Common.{subst, refl, false, true, ◌||◌}
use Rattle.stepper.specs.Bursting.{OnwardsBy}
use Rattle.stepper.proofs.Turns.{shape_then, lists_same}
use Rattle.stepper.proofs.Rounds.{went_none, went_then, went_less, went_onwards, fewer, further, not_far}
use Rattle.stepper.proofs.machine.Machine.run.Goals as goal

pub loop-share-init : goal.loop-share-init
loop-share-init g c = record {
  onwards = went_none g.B.BlockStep c.args.self.now (g.T.Tap.told c.args.tap.now);
  far = rw c.open-rounds.ensures.total (not_far g.B.BlockStep c.args.self.now c.stands.ensures);
  parts = rw c.open-rounds.ensures.parts c.requires.some;
  same_shape = (refl, refl, refl);
  lists = c.requires.lists;
}

pub loop-share-preserved : goal.loop-share-preserved
loop-share-preserved g c =
    let went : OnwardsBy g.B.BlockStep c.loop-share.self (g.T.Tap.told c.loop-share.tap) c.advance.new.self (g.T.Tap.told c.advance.new.tap) true =
    subst (λ z. OnwardsBy g.B.BlockStep c.loop-share.self (g.T.Tap.told c.loop-share.tap) c.advance.new.self (g.T.Tap.told c.advance.new.tap) z) c.if-branch.true c.in_ok-advance.ensures.onwards in
    record {
      onwards = went_less g.B.BlockStep c.args.self.now (g.T.Tap.told c.args.tap.now) c.advance.new.self (g.T.Tap.told c.advance.new.tap) (false || true)
          (went_then g.B.BlockStep c.args.self.now (g.T.Tap.told c.args.tap.now) c.loop-share.self (g.T.Tap.told c.loop-share.tap) c.advance.new.self (g.T.Tap.told c.advance.new.tap) false true c.loop-share.invariant.onwards went);
      far = rw c.add.ensures.total (further g.B.BlockStep c.loop-share.self (g.T.Tap.told c.loop-share.tap) c.advance.new.self (g.T.Tap.told c.advance.new.tap) c.loop-share.rounds.total went c.loop-share.invariant.far);
      parts = rw c.add.ensures.parts c.loop-share.invariant.parts;
      same_shape = shape_then c.args.self.now c.loop-share.self c.advance.new.self c.loop-share.invariant.same_shape c.advance.ensures.same_shape;
      lists = lists_same _ _ (g.T.Tap.told c.advance.new.tap) c.loop-share.invariant.same_shape.1 c.advance.ensures.lists_stay;
    }

pub loop-share-smaller : goal.loop-share-smaller
loop-share-smaller g c =
    let went : OnwardsBy g.B.BlockStep c.loop-share.self (g.T.Tap.told c.loop-share.tap) c.advance.new.self (g.T.Tap.told c.advance.new.tap) true =
    subst (λ z. OnwardsBy g.B.BlockStep c.loop-share.self (g.T.Tap.told c.loop-share.tap) c.advance.new.self (g.T.Tap.told c.advance.new.tap) z) c.if-branch.true c.in_ok-advance.ensures.onwards in
    rw c.add.ensures.total (fewer g.B.BlockStep c.loop-share.self (g.T.Tap.told c.loop-share.tap) c.advance.new.self (g.T.Tap.told c.advance.new.tap) c.loop-share.rounds.total went c.loop-share.invariant.far)

pub returns-in_err-advance-clause-onwards : goal.returns-in_err-advance-clause-onwards
returns-in_err-advance-clause-onwards g c =
    went_onwards g.B.BlockStep c.args.self.now (g.T.Tap.told c.args.tap.now) c.advance.new.self (g.T.Tap.told c.advance.new.tap) false
    (went_then g.B.BlockStep c.args.self.now (g.T.Tap.told c.args.tap.now) c.loop-share.self (g.T.Tap.told c.loop-share.tap) c.advance.new.self (g.T.Tap.told c.advance.new.tap) false false c.loop-share.invariant.onwards c.in_err-advance.ensures.refused)

pub returns-clause-onwards : goal.returns-clause-onwards
returns-clause-onwards g c =
    went_onwards g.B.BlockStep c.args.self.now (g.T.Tap.told c.args.tap.now) c.advance.new.self (g.T.Tap.told c.advance.new.tap) (false || c.in_ok-advance.field-0)
    (went_then g.B.BlockStep c.args.self.now (g.T.Tap.told c.args.tap.now) c.loop-share.self (g.T.Tap.told c.loop-share.tap) c.advance.new.self (g.T.Tap.told c.advance.new.tap) false c.in_ok-advance.field-0 c.loop-share.invariant.onwards c.in_ok-advance.ensures.onwards)
