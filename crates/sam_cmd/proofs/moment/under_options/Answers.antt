use Rattle.std.proofs.Common.{subst}
use Rattle.std.specs.Prelude.{Ok, Err}
use Rattle.sam_io.specs.Spans.{files_span}
use Rattle.graph.specs.declared.graphs.Graph.{Graph}
use Rattle.parts.specs.Answers.{Comes}
use Rattle.parts.proofs.ChainLemmas.{comes_first, comes_next, rest_of}
use Rattle.runs.specs.declared.setup.Setup.{Setup}
use Rattle.runs.specs.Setups.{setup_part}
use Rattle.sam_cmd.specs.Chosen.{chosen}
use Rattle.sam_cmd.specs.Commands.{sent_part}
use Rattle.sam_cmd.proofs.moment.under_options.Goals as goal

pub returns-in-Err-clause-comes : goal.returns-in-Err-clause-comes
returns-in-Err-clause-comes g c =
    let p = c.args.p.now in
    let options = c.args.options.now in
    let chosen_graph = chosen options.lowering p in
    let files = files_span g.F.Files c.args.files.now c.run_setup.new.files in
    comes_first (setup_part chosen_graph options) (sent_part p chosen_graph) files c.in-Err.fault
    (subst (λ (graph : Graph). Comes (setup_part graph options) files (Err c.in-Err.fault)) c.in-Ok.ensures.is_chosen c.in-Err.ensures.comes)

pub returns-clause-comes : goal.returns-clause-comes
returns-clause-comes g c =
    let p = c.args.p.now in
    let options = c.args.options.now in
    let chosen_graph = chosen options.lowering p in
    let old = c.args.files.now in
    let mid = c.run_setup.new.files in
    let new = c.over_tensors.new.files in
    let setup : Setup = c.in-Ok-run_setup.setup in
    let made =
    subst (λ (graph : Graph). setup_part graph options (g.F.Files.told old) (Ok setup)) c.in-Ok.ensures.is_chosen
    c.in-Ok-run_setup.ensures.comes in
    let over =
    subst (λ (graph : Graph). Comes (sent_part p graph setup) (files_span g.F.Files mid new) c.over_tensors.result)
    c.in-Ok.ensures.is_chosen c.over_tensors.ensures.comes in
    comes_next (setup_part chosen_graph options) (sent_part p chosen_graph)
    (files_span g.F.Files old new) (files_span g.F.Files mid new) (rest_of g.F.Files old mid new c.in-Ok-run_setup.ensures.keeps)
    setup c.over_tensors.result made over
