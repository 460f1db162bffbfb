use Rattle.std.proofs.Common.{◌≡◌, ◌∙◌, sym, ap, subst, arith, false, true, Ok, get_or, below_more}
use Rattle.std.proofs.lemmas.Option.{get_or_from_slice_get}
use Rattle.plays.specs.Net.{can, Stuck}
use Rattle.stepper.specs.NetOf.{net_of, rooms_of}
use Rattle.stepper.specs.AtState.{Wherever}
use Rattle.stepper.specs.Runs.{Turned}
use Rattle.stepper.proofs.Turns.{all_cannot}
use Rattle.stepper.proofs.Rounds.{went_same, went_then, went_turned}
use Rattle.stepper.proofs.machine.Machine.press.Goals as goal

pub loop-n-preserved : goal.loop-n-preserved
loop-n-preserved g c =
    let i = c.turn.ensures.idle (c.in_ok-turn.was ∙ ap Ok c.if-branch.false) in
    let turned = c.in_ok-turn.ensures.turned in
    let at = get_or_from_slice_get c.loop-n.self.routes.order c.loop-n.n c.visited-block.result 0 c.visited-block.ensures.is in
    let cannot = subst (λ m. Wherever g.B.BlockStep m (λ net rooms s. can net rooms s (get_or m.routes.order c.loop-n.n 0) ≡ false)) c.loop-n.invariant.0
    (λ storages gr caps s h. ap (can (net_of storages gr) (rooms_of caps) s) at ∙ (turned storages gr caps s h).0 ∙ c.if-branch.false) in
    (i.0 ∙ c.loop-n.invariant.0, i.1 ∙ c.loop-n.invariant.1, below_more _ _ c.loop-n.invariant.2 cannot)

pub returns-then-branch-clause-onwards : goal.returns-then-branch-clause-onwards
returns-then-branch-clause-onwards g c =
    let turned = subst (λ z. Turned g.B.BlockStep c.visited-block.result z c.loop-n.self (g.T.Tap.told c.loop-n.tap) c.turn.new.self (g.T.Tap.told c.turn.new.tap)) c.if-branch.true c.in_ok-turn.ensures.turned in
    went_then g.B.BlockStep c.args.self.now (g.T.Tap.told c.args.tap.now) c.loop-n.self (g.T.Tap.told c.loop-n.tap) c.turn.new.self (g.T.Tap.told c.turn.new.tap) false true
    (went_same g.B.BlockStep c.args.self.now (g.T.Tap.told c.args.tap.now) c.loop-n.self (g.T.Tap.told c.loop-n.tap) (c.loop-n.invariant.0, c.loop-n.invariant.1))
    (went_turned g.B.BlockStep c.visited-block.result true c.loop-n.self (g.T.Tap.told c.loop-n.tap) c.turn.new.self (g.T.Tap.told c.turn.new.tap) turned)

pub returns-clause-stuck : goal.returns-clause-stuck
returns-clause-stuck g c = λ z.
    subst (λ m. Wherever g.B.BlockStep m Stuck) (sym c.loop-n.invariant.0)
    (all_cannot g.B.BlockStep c.args.self.now c.loop-n.n (omega (arith, c.visits-n-end.ensures, c.loop-n-test.false)) c.loop-n.invariant.2)
