use Rattle.std.proofs.Common.{sym, subst, arith, length, List, ℕ, All, ◌<◌}
use Rattle.std.proofs.lemmas.List.Elements.{All-get_or}
use Rattle.stepper.proofs.Turns.{played_more, shape_then, lists_same}
use Rattle.stepper.proofs.machine.Machine.play.Goals as goal

pub turn-requires-clause-within : goal.turn-requires-clause-within
turn-requires-clause-within g c =
    let items : List ℕ = c.as_slice-block-items.result.now in
    let all : All (λ b. b < length c.args.self.now.blocks) items = subst (λ (z : List ℕ). All (λ b. b < length c.args.self.now.blocks) z) (sym c.as_slice-block-items.ensures) c.requires.within in
    let w = All-get_or (λ b. b < length c.args.self.now.blocks) items c.loop-block.block-index 0 c.loop-block-test.true all in
    let e = c.loop-block.invariant.1.0 in
    omega (arith, w, e)

pub loop-block-preserved : goal.loop-block-preserved
loop-block-preserved g c = (
  played_more g.B.BlockStep c.as_slice-block-items.result.now c.loop-block.block-index c.in_ok-_moved._moved
      c.args.self.now (g.T.Tap.told c.args.tap.now) c.loop-block.self (g.T.Tap.told c.loop-block.tap) c.turn.new.self (g.T.Tap.told c.turn.new.tap)
      c.loop-block-test.true c.loop-block.invariant.0 c.in_ok-_moved.ensures.turned,
  shape_then c.args.self.now c.loop-block.self c.turn.new.self c.loop-block.invariant.1 c.turn.ensures.same_shape,
  lists_same _ _ (g.T.Tap.told c.turn.new.tap) c.loop-block.invariant.1.1 c.turn.ensures.lists_stay,
)
