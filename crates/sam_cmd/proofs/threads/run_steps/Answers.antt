use Rattle.std.proofs.Common.{◌∙◌, ◌∷◌, subst, sym, List}
use Rattle.std.specs.Prelude.{Result, Ok, Err}
use Rattle.sam_base.specs.declared.faults.Fault.{Fault}
use Rattle.sam_io.specs.Spans.{files_span}
use Rattle.sam_model.specs.declared.program.Program.{Program}
use Rattle.sam_model.specs.declared.tensors.Tensor.{Tensor}
use Rattle.sam_model.specs.Chains.{AreChained}
use Rattle.parts.specs.Parts.{gives, followed, each_part}
use Rattle.parts.specs.Answers.{Comes}
use Rattle.parts.proofs.ChainLemmas.{comes_first, comes_from}
use Rattle.inputs.specs.Tensors.{tensor_part, stored_part}
use Rattle.sam_cmd.specs.Steps.{steps_part, by_threads, few_blocks}
use Rattle.sam_cmd.specs.Commands.{threaded_part}
use Rattle.sam_cmd.proofs.FirstLemmas.{all-accepted, few-refused, few-first}
use Rattle.sam_cmd.proofs.TensorLemmas.{comes_refused, comes_over}
use Rattle.sam_cmd.proofs.threads.run_steps.Goals as goal

pub returns-in-Err : goal.returns-in-Err
returns-in-Err g c =
    let lowering = c.args.lowering in
    let p = c.in-Some.program.now in
    let later = c.in-Some.later.now in
    let files = files_span g.F.Files c.args.files.now c.args.files.now in
    let fault = c.in-Err.fault in
    subst (λ (steps : List Program). Comes (threaded_part lowering steps) files (Err fault)) (sym c.in-Some.ensures.cases.0)
    (comes_first (gives (few_blocks lowering (p ∷ later))) (λ few. followed (each_part tensor_part p.tensors) (steps_part by_threads (p ∷ later)))
    files fault (few-refused lowering p later fault c.in-Err.ensures.comes files))

pub check_blocks-requires : goal.check_blocks-requires
check_blocks-requires g c =
    let p = c.in-Some.program.now in
    (all-accepted (p ∷ c.in-Some.later.now) p.tensors (subst AreChained c.in-Some.ensures.cases.0 c.requires.chained)).1

pub returns-in-Err-check_blocks : goal.returns-in-Err-check_blocks
returns-in-Err-check_blocks g c =
    let lowering = c.args.lowering in
    let p = c.in-Some.program.now in
    let later = c.in-Some.later.now in
    let files = files_span g.F.Files c.args.files.now c.args.files.now in
    let fault = c.in-Err-check_blocks.fault in
    subst (λ (steps : List Program). Comes (threaded_part lowering steps) files (Err fault)) (sym c.in-Some.ensures.cases.0)
    (comes_first (gives (few_blocks lowering (p ∷ later))) (λ few. followed (each_part tensor_part p.tensors) (steps_part by_threads (p ∷ later)))
    files fault
    (subst (λ (r : Result (Unit {0}) Fault). Comes (gives r) files (Err fault)) (few-first lowering p later c.in-Ok.graph (c.in-Ok.ensures.comes files))
    (c.in-Err-check_blocks.ensures files)))

pub returns-in-Err-storages : goal.returns-in-Err-storages
returns-in-Err-storages g c =
    let lowering = c.args.lowering in
    let p = c.in-Some.program.now in
    let later = c.in-Some.later.now in
    let files = files_span g.F.Files c.args.files.now c.storages.new.files in
    let fault = c.in-Err-storages.fault in
    subst (λ (steps : List Program). Comes (threaded_part lowering steps) files (Err fault)) (sym c.in-Some.ensures.cases.0)
    (comes_from (gives (few_blocks lowering (p ∷ later))) (λ few. followed (each_part tensor_part p.tensors) (steps_part by_threads (p ∷ later)))
    files tt (Err fault) (λ files. c.in-Ok-check_blocks.ensures files ∙ few-first lowering p later c.in-Ok.graph (c.in-Ok.ensures.comes files))
    (comes_refused p.tensors (steps_part by_threads (p ∷ later)) files fault
    (subst (λ (ts : List Tensor). Comes (each_part stored_part ts) files (Err fault)) c.as_slice.ensures c.in-Err-storages.ensures.comes)))

pub returns-in-Ok-storages : goal.returns-in-Ok-storages
returns-in-Ok-storages g c =
    let lowering = c.args.lowering in
    let p = c.in-Some.program.now in
    let later = c.in-Some.later.now in
    let files = files_span g.F.Files c.args.files.now c.storages.new.files in
    let storages = c.in-Ok-storages.storages in
    let r = c.run_on.result in
    subst (λ (steps : List Program). Comes (threaded_part lowering steps) files r) (sym c.in-Some.ensures.cases.0)
    (comes_from (gives (few_blocks lowering (p ∷ later))) (λ few. followed (each_part tensor_part p.tensors) (steps_part by_threads (p ∷ later)))
    files tt r (λ files. c.in-Ok-check_blocks.ensures files ∙ few-first lowering p later c.in-Ok.graph (c.in-Ok.ensures.comes files))
    (comes_over p.tensors (steps_part by_threads (p ∷ later)) files storages r
    (subst (λ (ts : List Tensor). each_part stored_part ts files.told (Ok storages)) c.as_slice.ensures c.in-Ok-storages.ensures.comes)
    c.run_on.ensures))
