use Rattle.std.proofs.Common.{ℕ, ◌≡◌, ◌≤◌, ◌∙◌, ap, refl, length, take, arith, false, true, Ok}
use Rattle.std.proofs.lemmas.Option.{slice_get-get_or}
use Rattle.stream_tokens.specs.declared.Token.TheVariants.{Item}
use Rattle.block_core.specs.Bursts.{relayed}
use Rattle.block_core.proofs.Pouring.{always-err}
use Rattle.plays.specs.Rest.{MadeAt, waits_at}
use Rattle.plays.proofs.Rests.{same_none, same_then}
use Rattle.plays.proofs.Relays.{relayed_start, relay_may, relayed_next, relayed_still}
use Rattle.stepper.specs.EndsView.{seen}
use Rattle.stepper.proofs.ends.EndsPorts.relay.Goals as goal

pub loop-i-init : goal.loop-i-init
loop-i-init g c = record { same_queues = refl; same_tap = refl; same_ends = same_none _; relayed = relayed_start _ _ _ _ }

pub relay_one-requires : goal.relay_one-requires
relay_one-requires g c =
    let at = slice_get-get_or c.args.out.now c.loop-i.i (Item 0) c.loop-i-test.true in
    record { may = relay_may (seen g.T.Tap c.args.self.now) c.args.from c.args.to c.args.out.now c.loop-i.i (seen g.T.Tap c.loop-i.self) _ c.loop-i.invariant.relayed at c.requires.enough c.requires.may }

pub loop-i-preserved : goal.loop-i-preserved
loop-i-preserved g c =
    let at = slice_get-get_or c.args.out.now c.loop-i.i (Item 0) c.loop-i-test.true in
    let e : c.in_ok-relay_one.field-0 ≡ true = c.if-not-branch.false in
    let done = ap (λ z. Ok z) e in
    record {
      same_queues = c.relay_one.ensures.same_queues ∙ c.loop-i.invariant.same_queues;
      same_tap = c.relay_one.ensures.same_tap ∙ c.loop-i.invariant.same_tap;
      same_ends = same_then (seen g.T.Tap c.args.self.now) (seen g.T.Tap c.loop-i.self) (seen g.T.Tap c.relay_one.new.self) c.loop-i.invariant.same_ends c.relay_one.ensures.same_ends;
      relayed = relayed_next (seen g.T.Tap c.args.self.now) c.args.from c.args.to c.args.out.now c.loop-i.i (seen g.T.Tap c.loop-i.self) _ (seen g.T.Tap c.relay_one.new.self) c.loop-i.invariant.relayed at c.requires.enough
          (c.in_ok-relay_one.ensures.relayed done) (c.in_ok-relay_one.ensures.left done);
    }

pub returns-then-not-branch-clause-relayed : goal.returns-then-not-branch-clause-relayed
returns-then-not-branch-clause-relayed g c =
    let e : c.in_ok-relay_one.field-0 ≡ false = c.if-not-branch.true in
    let l : c.loop-i.i ≤ length c.args.out.now = omega (arith, c.loop-i-test.true) in
    (l, relayed_still (seen g.T.Tap c.args.self.now) c.args.from c.args.to c.args.out.now c.loop-i.i (seen g.T.Tap c.loop-i.self) (seen g.T.Tap c.relay_one.new.self) c.loop-i.invariant.relayed (c.in_ok-relay_one.ensures.full (ap (λ z. Ok z) e)))

pub returns-in_err-relay_one-clause-refused : goal.returns-in_err-relay_one-clause-refused
returns-in_err-relay_one-clause-refused g c =
    let l : c.loop-i.i ≤ length c.args.out.now = omega (arith, c.loop-i-test.true) in
    let made : MadeAt (seen g.T.Tap c.args.self.now) (relayed c.args.from c.args.to (take c.loop-i.i (waits_at (seen g.T.Tap c.args.self.now) c.args.from)) (take c.loop-i.i c.args.out.now)) (seen g.T.Tap c.relay_one.new.self) =
    relayed_still (seen g.T.Tap c.args.self.now) c.args.from c.args.to c.args.out.now c.loop-i.i (seen g.T.Tap c.loop-i.self) (seen g.T.Tap c.relay_one.new.self) c.loop-i.invariant.relayed c.in_err-relay_one.ensures.refused in
    let part : (k : ℕ) × (k ≤ length c.args.out.now) × MadeAt (seen g.T.Tap c.args.self.now) (relayed c.args.from c.args.to (take k (waits_at (seen g.T.Tap c.args.self.now) c.args.from)) (take k c.args.out.now)) (seen g.T.Tap c.relay_one.new.self) = (c.loop-i.i, l, made) in
    always-err _ part
