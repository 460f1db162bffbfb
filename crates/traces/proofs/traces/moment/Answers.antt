use Rattle.std.proofs.Common.{◌∙◌}
use Rattle.std.proofs.lemmas.Result.{IfOk-weaker}
use Rattle.plays.specs.Net.{start}
use Rattle.traces.specs.Traces.{moment}
use Rattle.traces.proofs.TellingLemmas.{told-lines, moment-of-program}
use Rattle.traces.proofs.traces.moment.Goals as goal

pub returns-clause-of_graph : goal.returns-clause-of_graph
returns-clause-of_graph c =
    let storages = c.args.storages.now in
    let g = c.args.g.now in
    let caps = c.args.capacities.now.each in
    let schedule = c.args.schedule.now in
    let played = c.in_ok-play.ensures.played storages g caps start c.in_ok-machine.ensures.starts in
    let told =
    told-lines storages g (moment storages g caps schedule) c.len-channels.result c.in_ok-kept.kept c.play.new.tap
    c.len-channels.ensures c.in_ok-kept.ensures.empty played.1 in
    IfOk-weaker c.channel_lines.result _ _ (λ text is. is ∙ told) c.channel_lines.ensures

pub returns-clause-of_program : goal.returns-clause-of_program
returns-clause-of_program c = λ p entries stored.
    let of_graph = returns-clause-of_graph c in
    IfOk-weaker c.channel_lines.result _ _
    (λ text is.
    is
    ∙ moment-of-program p c.args.g.now entries c.args.storages.now stored c.args.capacities.now.each c.args.schedule.now)
    of_graph
