use Rattle.std.proofs.Common.{length, subst, ◌≡◌, ◌∙◌, Ok, Some, ℕ, ap, replicate}
use Rattle.std.proofs.lemmas.Result.{IfOk-at_ok}
use Rattle.plays.specs.Net.{start}
use Rattle.stepper.specs.NetOf.{net_of, rooms_of}
use Rattle.stepper.proofs.Wires.{wired}
use Rattle.sam_sizing.proofs.OwnMade.{own-made}
use Rattle.sam_sizing.proofs.Tried.{ok-each, alike-rooms, ends-as}
use Rattle.sam_sizing.proofs.trial.trial.Goals as goal

pub new-requires-clause-own : goal.new-requires-clause-own
new-requires-clause-own g c =
    let made = c.in_ok-blocks.ensures in
    let own = c.requires.own in
    ∣ (
      own.0,
      own.1.consistent,
      own-made g.M.B.BlockStep.kind g.M.B.BlockStep.stands own.0 c.args.g.now _ _ own.1 made.same_kinds made.starts,
    ) ∣₁

pub returns : goal.returns
returns g c = ok-each c.finish.result _ (λ ending at storages makes.
    let graph = c.args.g.now in
    let caps = c.in_ok-capacities.capacities.each in
    let made = c.in_ok-blocks.ensures in
    let own = own-made g.M.B.BlockStep.kind g.M.B.BlockStep.stands storages graph _ _ makes made.same_kinds made.starts in
    let alike =
    subst (λ (n : ℕ). caps ≡ replicate n (Some c.args.capacity)) c.len.ensures c.in_ok-capacities.ensures.alike in
    let begins = c.in_ok-machine.ensures.starts storages makes.consistent own in
    let gone = c.finish.ensures.onwards storages graph caps start begins in
    ends-as (net_of storages graph) (rooms_of caps) c.args.capacity gone.0 (wired storages graph c.requires.formed makes.consistent)
    (alike-rooms caps (length graph.channels) c.args.capacity alike) gone.1
    (IfOk-at_ok _ at c.finish.ensures.stuck storages graph caps gone.0 gone.2) ending
    (λ e. c.finish.ensures.finished (at ∙ ap Ok e) storages graph caps gone.0 gone.2)
    (λ list e. c.finish.ensures.stalled list (at ∙ ap Ok e) storages graph caps gone.0 gone.2))
