use Rattle.std.proofs.Common.{ap, subst, sym, List}
use Rattle.std.specs.Prelude.{Ok, Err}
use Rattle.sam_io.specs.Spans.{files_span}
use Rattle.sam_model.specs.declared.tensors.Tensor.{Tensor}
use Rattle.sam_model.specs.Children.{Ranked}
use Rattle.traces.specs.Traces.{moment_of}
use Rattle.parts.specs.Parts.{gives, each_part}
use Rattle.parts.specs.Answers.{Comes}
use Rattle.inputs.specs.Tensors.{stored_part, AreStored}
use Rattle.sam_cmd.proofs.TensorLemmas.{comes_refused, comes_over}
use Rattle.sam_cmd.proofs.moment.over_tensors.Goals as goal

pub returns-in-Err-clause-comes : goal.returns-in-Err-clause-comes
returns-in-Err-clause-comes g c =
    let p = c.args.p.now in
    let setup = c.args.setup.now in
    let files = files_span g.F.Files c.args.files.now c.storages.new.files in
    comes_refused p.tensors (λ entries. gives (Ok (moment_of p c.args.g.now entries setup.capacities.each setup.schedule))) files c.in-Err.fault
    (subst (λ (ts : List Tensor). Comes (each_part stored_part ts) files (Err c.in-Err.fault)) c.as_slice.ensures c.in-Err.ensures.comes)

pub returns-in-Ok-moment-clause-comes : goal.returns-in-Ok-moment-clause-comes
returns-in-Ok-moment-clause-comes g c =
    let p = c.args.p.now in
    let setup = c.args.setup.now in
    let files = files_span g.F.Files c.args.files.now c.storages.new.files in
    let storages = c.in-Ok.storages in
    let stored =
    subst (λ (ts : List Tensor). each_part stored_part ts files.told (Ok storages)) c.as_slice.ensures c.in-Ok.ensures.comes in
    comes_over p.tensors (λ entries. gives (Ok (moment_of p c.args.g.now entries setup.capacities.each setup.schedule))) files storages
    (Ok c.in-Ok-moment.text) stored (λ entries are. λ files.
    ap Ok (c.in-Ok-moment.ensures.of_program p entries (subst (λ (s : List Ranked). AreStored p.tensors entries s) (sym c.as_slice-in-Ok.ensures) are)))
