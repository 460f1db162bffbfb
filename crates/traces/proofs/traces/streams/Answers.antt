use Rattle.std.proofs.Common.{◌∙◌, ap, Ok}
use Rattle.std.proofs.lemmas.Result.{IfOk-weaker}
use Rattle.plays.specs.Net.{start}
use Rattle.machines.proofs.UnboundedRuns.{never-stalls}
use Rattle.traces.proofs.TellingLemmas.{told-lines, all-lines, streams-of-program}
use Rattle.traces.proofs.traces.streams.Goals as goal

pub unreachable-requires : goal.unreachable-requires
unreachable-requires c =
    let storages = c.args.storages.now in
    let g = c.args.g.now in
    let caps = c.in_ok-unbounded.field-0.each in
    let r = c.requires in
    let gone = c.in_ok-finish.ensures.onwards storages g caps start c.in_ok-machine.ensures.starts in
    let stuck = c.in_ok-finish.ensures.stuck storages g caps gone.0 gone.2 in
    let stalled = c.in_ok-finish.ensures.stalled c.in-Stalled.field-0 (ap Ok c.in-Stalled.is) storages g caps gone.0 gone.2 in
    stalled.1 (never-stalls storages g caps _ gone.0 r.formed r.consistent c.in_ok-unbounded.ensures.alike gone.1 stuck)

pub returns-clause-of_graph : goal.returns-clause-of_graph
returns-clause-of_graph c =
    let storages = c.args.storages.now in
    let g = c.args.g.now in
    let caps = c.in_ok-unbounded.field-0.each in
    let gone = c.in_ok-finish.ensures.onwards storages g caps start c.in_ok-machine.ensures.starts in
    let finished = c.in_ok-finish.ensures.finished (ap Ok c.in-Finished.is) storages g caps gone.0 gone.2 in
    let told =
    told-lines storages g gone.0 c.len-channels.result c.in_ok-kept.kept c.finish.new.tap
    c.len-channels.ensures c.in_ok-kept.ensures.empty gone.3 in
    IfOk-weaker c.channel_lines.result _ _ (λ text is. is ∙ told ∙ all-lines storages g gone.0 c.requires finished) c.channel_lines.ensures

pub returns-clause-of_program : goal.returns-clause-of_program
returns-clause-of_program c = λ p entries stored.
    let of_graph = returns-clause-of_graph c in
    IfOk-weaker c.channel_lines.result _ _
    (λ text is. is ∙ streams-of-program p c.args.g.now entries c.args.storages.now stored)
    of_graph
