use Rattle.std.proofs.Common.{◌∙◌, ◌-◌, ◌^◌, ℕ, ap, Ok}
use Rattle.std.specs.Prelude.{min}
use Rattle.plays.specs.Net.{start}
use Rattle.stepper.proofs.GraphLaws.{move-count}
use Rattle.machines.proofs.UnboundedRuns.{never-stalls}
use Rattle.large.proofs.summaries.run.Goals as goal

pub unreachable-requires : goal.unreachable-requires
unreachable-requires c =
    let storages = c.args.storages.now in
    let g = c.args.g.now in
    let caps = c.in_ok-capacities.capacities.each in
    let r = c.requires in
    let gone = c.in_ok-finish.ensures.onwards storages g caps start c.in_ok-machine.ensures.starts in
    let stuck = c.in_ok-finish.ensures.stuck storages g caps gone.0 gone.2 in
    let stalled = c.in_ok-finish.ensures.stalled c.in-Stalled.field-0 (ap Ok c.in-Stalled.is) storages g caps gone.0 gone.2 in
    stalled.1 (never-stalls storages g caps _ gone.0 r.formed r.consistent c.in_ok-capacities.ensures.alike gone.1 stuck)

pub returns-clause-moves : goal.returns-clause-moves
returns-clause-moves c =
    let storages = c.args.storages.now in
    let g = c.args.g.now in
    let caps = c.in_ok-capacities.capacities.each in
    let gone = c.in_ok-finish.ensures.onwards storages g caps start c.in_ok-machine.ensures.starts in
    let finished = c.in_ok-finish.ensures.finished (ap Ok c.in-Finished.is) storages g caps gone.0 gone.2 in
    let counted = move-count storages g gone.0 c.requires.formed c.requires.consistent finished in
    c.moves.ensures ∙ gone.2.counted ∙ ap (λ (n : ℕ). min n (2 ^ 64 - 1)) counted
