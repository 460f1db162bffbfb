use Rattle.std.proofs.Common.{subst, List, sym, take, ◌+◌}
use Rattle.std.proofs.lemmas.List.{take_all}
use Rattle.std.specs.Prelude.{Ok, Err, Option}
use Rattle.sam_io.specs.Outside.{Told}
use Rattle.sam_io.specs.Spans.{files_span}
use Rattle.sam_model.specs.declared.tensors.Tensor.{Tensor}
use Rattle.sam_model.specs.Children.{Ranked}
use Rattle.parts.specs.Parts.{each_part}
use Rattle.parts.specs.Answers.{Comes}
use Rattle.parts.proofs.ChainLemmas.{comes_at, each_more, rest_of, keeps_on}
use Rattle.inputs.specs.Tensors.{stored_part}
use Rattle.inputs.proofs.TensorLemmas.{are_stored}
use Rattle.inputs.proofs.tensors.storages.Goals as goal

pub returns-in-Err-clause-comes : goal.returns-in-Err-clause-comes
returns-in-Err-clause-comes g c =
    let inv = c.loop-tensor.invariant in
    let whole = files_span g.F.Files c.args.files.now c.stored.new.files in
    let rest = files_span g.F.Files c.loop-tensor.files c.stored.new.files in
    comes_at stored_part whole rest (rest_of g.F.Files c.args.files.now c.loop-tensor.files c.stored.new.files inv.keeps)
    c.args.tensors.now c.loop-tensor.tensor-index c.tensor-item.result c.loop-tensor.storages c.in-Err.fault
    c.loop-tensor-test.true inv.done
    (subst (λ (t : Tensor). Comes (stored_part t) rest (Err c.in-Err.fault)) c.tensor-item.is c.in-Err.ensures.comes)

pub loop-tensor-preserved : goal.loop-tensor-preserved
loop-tensor-preserved g c =
    let inv = c.loop-tensor.invariant in
    let told = g.F.Files.told c.args.files.now in
    let here = subst (λ (m : Option Told). stored_part c.tensor-item.result m (Ok c.in-Ok.storage)) inv.keeps.told c.in-Ok.ensures.comes in
    let there = subst (λ (t : Tensor). stored_part t told (Ok c.in-Ok.storage)) c.tensor-item.is here in
    let more =
    each_more stored_part told c.args.tensors.now c.loop-tensor.tensor-index c.tensor-item.result c.loop-tensor.storages
    c.in-Ok.storage c.loop-tensor-test.true inv.done there in
    record {
      keeps = keeps_on g.F.Files c.args.files.now c.loop-tensor.files c.stored.new.files inv.keeps c.in-Ok.ensures.keeps;
      done =
          subst (λ (l : List Ranked). each_part stored_part (take (c.loop-tensor.tensor-index + 1) c.args.tensors.now) told (Ok l))
          (sym c.in-Ok-push.ensures.ok) more;
    }

pub returns-clause-stored : goal.returns-clause-stored
returns-clause-stored g c =
    let ts = c.args.tensors.now in
    let told = g.F.Files.told c.args.files.now in
    let end = take_all c.loop-tensor.tensor-index ts c.loop-tensor-test.false in
    are_stored told ts c.loop-tensor.storages
    (subst (λ (l : List Tensor). each_part stored_part l told (Ok c.loop-tensor.storages)) end c.loop-tensor.invariant.done)
