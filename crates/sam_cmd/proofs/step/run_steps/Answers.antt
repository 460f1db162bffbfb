use Rattle.std.proofs.Common.{◌∷◌, length, List, ap, arith, subst, sym}
use Rattle.std.specs.Prelude.{Ok, Err}
use Rattle.sam_io.specs.Spans.{files_span}
use Rattle.sam_model.specs.declared.program.Program.{Program}
use Rattle.sam_model.specs.declared.tensors.Tensor.{Tensor}
use Rattle.graph.specs.declared.graphs.Graph.{Graph}
use Rattle.parts.specs.Parts.{each_part}
use Rattle.parts.specs.Answers.{Comes}
use Rattle.parts.proofs.ChainLemmas.{rest_of}
use Rattle.inputs.specs.Tensors.{stored_part}
use Rattle.runs.specs.Setups.{setup_part}
use Rattle.sam_cmd.specs.Chosen.{chosen}
use Rattle.sam_cmd.specs.Steps.{steps_part, under_options}
use Rattle.sam_cmd.specs.Commands.{stepped_part}
use Rattle.sam_cmd.proofs.FirstLemmas.{no-schedule, setup-refused, setup-then}
use Rattle.sam_cmd.proofs.TensorLemmas.{comes_refused, comes_over}
use Rattle.sam_cmd.proofs.step.run_steps.Goals as goal

pub returns-in-Err : goal.returns-in-Err
returns-in-Err g c =
    let options = c.args.options.now in
    let files = files_span g.F.Files c.args.files.now c.run_setup.new.files in
    subst (λ (steps : List Program). Comes (stepped_part options steps) files (Err c.in-Err.fault)) (sym c.in-Some.ensures.cases.0)
    (setup-refused options c.in-Some.program.now c.in-Some.later.now files c.in-Err.fault
    (subst (λ (graph : Graph). Comes (setup_part graph options) files (Err c.in-Err.fault)) c.in-Ok.ensures.is_chosen c.in-Err.ensures.comes))

pub step_on-requires-clause-later : goal.step_on-requires-clause-later
step_on-requires-clause-later g c = λ some.
    let long = ap (λ (steps : List Program). length steps) c.in-Some.ensures.cases.0 in
    no-schedule c.in-Ok.graph c.args.options.now (g.F.Files.told c.args.files.now) c.in-Ok-run_setup.setup
    (c.requires.each (omega (arith, some, long))) c.in-Ok-run_setup.ensures.comes

pub returns-in-Err-storages : goal.returns-in-Err-storages
returns-in-Err-storages g c =
    let options = c.args.options.now in
    let p = c.in-Some.program.now in
    let later = c.in-Some.later.now in
    let mid = c.run_setup.new.files in
    let new = c.storages.new.files in
    let rest = files_span g.F.Files mid new in
    let whole = files_span g.F.Files c.args.files.now new in
    let fault = c.in-Err-storages.fault in
    subst (λ (steps : List Program). Comes (stepped_part options steps) whole (Err fault)) (sym c.in-Some.ensures.cases.0)
    (setup-then options p later whole rest (rest_of g.F.Files c.args.files.now mid new c.in-Ok-run_setup.ensures.keeps) c.in-Ok-run_setup.setup (Err fault)
    (subst (λ (graph : Graph). setup_part graph options whole.told (Ok c.in-Ok-run_setup.setup)) c.in-Ok.ensures.is_chosen c.in-Ok-run_setup.ensures.comes)
    (comes_refused p.tensors (steps_part (λ (q : Program). under_options options q (chosen options.lowering q)) (p ∷ later)) rest fault
    (subst (λ (ts : List Tensor). Comes (each_part stored_part ts) rest (Err fault)) c.as_slice.ensures c.in-Err-storages.ensures.comes)))

pub returns-in-Ok-storages : goal.returns-in-Ok-storages
returns-in-Ok-storages g c =
    let options = c.args.options.now in
    let p = c.in-Some.program.now in
    let later = c.in-Some.later.now in
    let mid = c.run_setup.new.files in
    let new = c.storages.new.files in
    let rest = files_span g.F.Files mid new in
    let whole = files_span g.F.Files c.args.files.now new in
    let storages = c.in-Ok-storages.storages in
    let r = c.step_on.result in
    subst (λ (steps : List Program). Comes (stepped_part options steps) whole r) (sym c.in-Some.ensures.cases.0)
    (setup-then options p later whole rest (rest_of g.F.Files c.args.files.now mid new c.in-Ok-run_setup.ensures.keeps) c.in-Ok-run_setup.setup r
    (subst (λ (graph : Graph). setup_part graph options whole.told (Ok c.in-Ok-run_setup.setup)) c.in-Ok.ensures.is_chosen c.in-Ok-run_setup.ensures.comes)
    (comes_over p.tensors (steps_part (λ (q : Program). under_options options q (chosen options.lowering q)) (p ∷ later)) rest storages r
    (subst (λ (ts : List Tensor). each_part stored_part ts rest.told (Ok storages)) c.as_slice.ensures c.in-Ok-storages.ensures.comes)
    c.step_on.ensures))
