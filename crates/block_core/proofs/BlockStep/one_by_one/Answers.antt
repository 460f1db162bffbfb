use Rattle.std.proofs.Common.{◌≡◌, slice_get, sym, ◌∙◌, refl, ap, [], Ok, false, true}
use Rattle.block_core.proofs.Pouring.{first-is, poured_none, poured_take, poured_put, poured_still, poured_some, may_then, may_take_next, may_take, may_put_next, may_put, always-err}
use Rattle.block_core.specs.Bursts.{Poured}
use Rattle.block_core.proofs.BlockStep.one_by_one.Goals as goal
use Rattle.block_core.proofs.BlockStep.one_by_one.Goals.{in-Take+in-Some+in_ok-take-in-Take, in-Put+in_ok-put-in-Put+else-not-branch}

pub loop-init : goal.loop-init
loop-init g c = record {
  same_kind = refl;
  same_refusal = refl;
  same_ends = g.met.P.Ports.same_none c.args.ports.now;
  poured = poured_none g.Self.BlockStep.kind g.Self.BlockStep.stands g.P.Ports.fed g.P.Ports.did g.met.P.Ports.did_none c.args.self.now c.args.ports.now;
  may = c.requires;
}

pub front-requires : goal.front-requires
front-requires g c =
    may_take_next g.Self.BlockStep.kind g.Self.BlockStep.stands g.P.Ports.fed g.P.Ports.did c.loop.self c.loop.ports c.loop.invariant.may c.in-Take.port
    (λ s n st. sym c.in-Take.is ∙ c.wish.ensures s n st)

pub take-requires : goal.take-requires
take-requires g c =
    may_take g.Self.BlockStep.kind g.Self.BlockStep.stands g.P.Ports.fed g.P.Ports.did c.loop.self c.loop.ports c.loop.invariant.may
    (λ p q. slice_get (g.P.Ports.waits p q) 0) (first-is g.P.Ports.fed g.P.Ports.waits g.met.P.Ports.comes) c.in-Take.port c.in-Some.t
    (λ s n st. sym c.in-Take.is ∙ c.wish.ensures s n st) (sym c.front.ensures ∙ c.in-Some.is)

pub pop-requires-clause-may : goal.pop-requires-clause-may
pop-requires-clause-may g c =
    may_take_next g.Self.BlockStep.kind g.Self.BlockStep.stands g.P.Ports.fed g.P.Ports.did c.loop.self c.loop.ports c.loop.invariant.may c.in-Take.port
    (λ s n st. sym c.in-Take.is ∙ c.wish.ensures s n st)

pub put-requires : goal.put-requires
put-requires g c =
    may_put_next g.Self.BlockStep.kind g.Self.BlockStep.stands g.P.Ports.fed g.P.Ports.did c.loop.self c.loop.ports c.loop.invariant.may c.in-Put.port c.in-Put.t
    (λ s n st. sym c.in-Put.is ∙ c.wish.ensures s n st)

pub did_put-requires : goal.did_put-requires
did_put-requires g c =
    may_put g.Self.BlockStep.kind g.Self.BlockStep.stands g.P.Ports.fed g.P.Ports.did c.loop.self c.loop.ports c.loop.invariant.may c.in-Put.port c.in-Put.t
    (λ s n st. sym c.in-Put.is ∙ c.wish.ensures s n st)

pub returns-in_err-put-in-Put-clause-refused : goal.returns-in_err-put-in-Put-clause-refused
returns-in_err-put-in-Put-clause-refused g c =
    let ports : g.P.Ports.did c.loop.ports [] c.put.new.self = c.in_err-put-in-Put.ensures.refused in
    let part : Poured g.Self.BlockStep.kind g.Self.BlockStep.stands g.P.Ports.fed g.P.Ports.did c.args.self.now c.args.ports.now c.loop.self c.put.new.self false =
    poured_some g.Self.BlockStep.kind g.Self.BlockStep.stands g.P.Ports.fed g.P.Ports.did c.args.self.now c.args.ports.now c.loop.self c.put.new.self c.loop.went
    (poured_still g.Self.BlockStep.kind g.Self.BlockStep.stands g.P.Ports.fed g.P.Ports.did g.met.P.Ports.did_then c.args.self.now c.args.ports.now c.loop.self c.loop.ports c.loop.went c.put.new.self c.loop.invariant.poured ports) in
    always-err _ part

pub returns-then-not-branch-clause-poured : goal.returns-then-not-branch-clause-poured
returns-then-not-branch-clause-poured g c =
    let e : c.in_ok-put-in-Put.field-0 ≡ false = c.if-not-branch.true in
    poured_still g.Self.BlockStep.kind g.Self.BlockStep.stands g.P.Ports.fed g.P.Ports.did g.met.P.Ports.did_then c.args.self.now c.args.ports.now c.loop.self c.loop.ports c.loop.went c.put.new.self c.loop.invariant.poured
    (c.in_ok-put-in-Put.ensures.full (ap (λ x. Ok x) e))

pub loop-preserved : goal.loop-preserved
loop-preserved g c = elim c.match-wish.branch [
  | in-Take+in-Some+in_ok-take-in-Take w ↦
      let same = w.in_ok-take-in-Take.ensures.same_kind ∙ c.loop.invariant.same_kind in
      let front = sym w.front.ensures ∙ w.in-Some.is in
      let more : Poured g.Self.BlockStep.kind g.Self.BlockStep.stands g.P.Ports.fed g.P.Ports.did c.args.self.now c.args.ports.now w.take.new.self w.pop.new.self true =
      poured_take g.Self.BlockStep.kind g.Self.BlockStep.stands g.P.Ports.fed g.P.Ports.did (λ p q. slice_get (g.P.Ports.waits p q) 0) (first-is g.P.Ports.fed g.P.Ports.waits g.met.P.Ports.comes) g.met.P.Ports.fed_after g.met.P.Ports.did_then
      c.args.self.now c.args.ports.now c.loop.self c.loop.ports c.loop.went w.take.new.self w.pop.new.self w.in-Take.port w.in-Some.t
      c.loop.invariant.same_kind c.loop.invariant.poured
      (λ s n st. sym w.in-Take.is ∙ c.wish.ensures s n st) front w.in_ok-take-in-Take.ensures.moved (w.pop.ensures.taken w.in-Some.t front) in
      rw (w.self-is, w.ports-is) (record {
        same_kind = same;
        same_refusal = w.in_ok-take-in-Take.ensures.same_refusal ∙ c.loop.invariant.same_refusal;
        same_ends = g.met.P.Ports.same_then c.args.ports.now c.loop.ports w.pop.new.self c.loop.invariant.same_ends w.pop.ensures.same_ends;
        poured = more;
        may = may_then g.Self.BlockStep.kind g.Self.BlockStep.stands g.P.Ports.fed g.P.Ports.did g.met.P.Ports.fed_after c.args.self.now c.args.ports.now w.take.new.self w.pop.new.self true same more c.requires;
      })
  | in-Put+in_ok-put-in-Put+else-not-branch w ↦
      let same = w.did_put.ensures.same_kind ∙ c.loop.invariant.same_kind in
      let e : w.in_ok-put-in-Put.field-0 ≡ true = w.if-not-branch.false in
      let more : Poured g.Self.BlockStep.kind g.Self.BlockStep.stands g.P.Ports.fed g.P.Ports.did c.args.self.now c.args.ports.now w.did_put.new.self w.put.new.self true =
      poured_put g.Self.BlockStep.kind g.Self.BlockStep.stands g.P.Ports.fed g.P.Ports.did g.met.P.Ports.fed_after g.met.P.Ports.did_then
      c.args.self.now c.args.ports.now c.loop.self c.loop.ports c.loop.went w.did_put.new.self w.put.new.self w.in-Put.port w.in-Put.t
      c.loop.invariant.same_kind c.loop.invariant.poured
      (λ s n st. sym w.in-Put.is ∙ c.wish.ensures s n st) w.did_put.ensures.moved (w.in_ok-put-in-Put.ensures.put (ap (λ x. Ok x) e)) in
      rw (w.self-is, w.ports-is) (record {
        same_kind = same;
        same_refusal = w.did_put.ensures.same_refusal ∙ c.loop.invariant.same_refusal;
        same_ends = g.met.P.Ports.same_then c.args.ports.now c.loop.ports w.put.new.self c.loop.invariant.same_ends w.put.ensures.same_ends;
        poured = more;
        may = may_then g.Self.BlockStep.kind g.Self.BlockStep.stands g.P.Ports.fed g.P.Ports.did g.met.P.Ports.fed_after c.args.self.now c.args.ports.now w.did_put.new.self w.put.new.self true same more c.requires;
      })
]
