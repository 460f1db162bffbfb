use Rattle.std.proofs.Common.{ap, sym, ◌∙◌, length}
use Rattle.std.specs.Prelude.{Ok}
use Rattle.tns_io.specs.Entries.{tns_entries}
use Rattle.inputs.specs.Tensors.{entries_in, with_tensor_fault}
use Rattle.inputs.proofs.TensorLemmas.{kept_same}
use Rattle.inputs.proofs.tensors.spelled_entries.Goals as goal

pub returns-in-Ok-clause-comes : goal.returns-in-Ok-clause-comes
returns-in-Ok-clause-comes c = λ files.
    let t = c.args.t.now in
    let read = c.in-Ok.ensures in
    sym (
    ap (entries_in t) c.in-Some.is
    ∙ ap (with_tensor_fault t) (ap (tns_entries t.dims) (sym c.as_bytes.ensures) ∙ read.entries)
    ∙ ap Ok (kept_same (length t.dims) c.in-Ok.entries read.arity read.whole)
    )
