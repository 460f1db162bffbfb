use Rattle.std.proofs.Common.{subst, sym, List}
use Rattle.std.specs.Prelude.{Ok, Err}
use Rattle.sam_io.specs.Spans.{files_span}
use Rattle.sam_model.specs.declared.tensors.Tensor.{Tensor}
use Rattle.sam_model.specs.Children.{Ranked}
use Rattle.parts.specs.Parts.{each_part}
use Rattle.parts.specs.Answers.{Comes, ComesAlways}
use Rattle.inputs.specs.Tensors.{stored_part, AreStored}
use Rattle.runs.specs.Sizes.{size_part}
use Rattle.graph.specs.declared.graphs.Graph.{Graph}
use Rattle.sam_cmd.specs.Chosen.{chosen}
use Rattle.sam_cmd.proofs.TensorLemmas.{comes_refused, comes_over}
use Rattle.sam_cmd.proofs.size.program_size.Goals as goal

pub returns-in-Err-clause-comes : goal.returns-in-Err-clause-comes
returns-in-Err-clause-comes g c =
    let p = c.args.p.now in
    let files = files_span g.F.Files c.args.files.now c.storages.new.files in
    comes_refused p.tensors (size_part p (chosen c.args.lowering p)) files c.in-Err.fault
    (subst (λ (ts : List Tensor). Comes (each_part stored_part ts) files (Err c.in-Err.fault)) c.as_slice.ensures c.in-Err.ensures.comes)

pub returns-clause-comes : goal.returns-clause-comes
returns-clause-comes g c =
    let p = c.args.p.now in
    let files = files_span g.F.Files c.args.files.now c.storages.new.files in
    let storages = c.in-Ok-storages.storages in
    let stored =
    subst (λ (ts : List Tensor). each_part stored_part ts files.told (Ok storages)) c.as_slice.ensures
    c.in-Ok-storages.ensures.comes in
    comes_over p.tensors (size_part p (chosen c.args.lowering p)) files storages c.size_program.result stored
    (λ entries are.
    subst (λ (graph : Graph). ComesAlways (size_part p graph entries) c.size_program.result) c.in-Ok.ensures.is_chosen
    (c.size_program.ensures entries
    (subst (λ (s : List Ranked). AreStored p.tensors entries s) (sym c.as_slice-in-Ok-storages.ensures) are)))
