use Rattle.std.proofs.Common.{ap, sym, inl}
use Rattle.std.specs.Prelude.{Ok, Err}
use Rattle.sam_base.specs.declared.faults.Fault.TheVariants.{Tensor}
use Rattle.sam_base.specs.declared.faults.TnsKind.TheVariants.{TooManyPositions}
use Rattle.parts.proofs.ChainLemmas.{always_refused}
use Rattle.inputs.specs.Tensors.{storage_part}
use Rattle.inputs.proofs.TensorLemmas.{may_store, may_not_store}
use Rattle.inputs.proofs.tensors.storage.Goals as goal

pub returns-in-Ok : goal.returns-in-Ok
returns-in-Ok c = λ files.
    let t = c.args.t.now in
    let e = c.args.entries.now in
    (e, sym (may_store c.args.told.now t e c.in-Ok.ensures.few), ap Ok c.in-Ok.ensures.stored)

pub returns-in-Err-TooManyPositions : goal.returns-in-Err-TooManyPositions
returns-in-Err-TooManyPositions c =
    let t = c.args.t.now in
    let e = c.args.entries.now in
    let told = c.args.told.now in
    let many = c.in-Err-TooManyPositions.ensures.many (ap Err c.in-Err-TooManyPositions.field-0-is) in
    always_refused (storage_part told t e) (Tensor told TooManyPositions 0) c.refused.result c.refused.ensures
    (λ files. (inl (sym (may_not_store told t e many.0 many.1 many.2)), tt))
