use Rattle.parts.specs.Parts.{gives}
use Rattle.parts.proofs.ChainLemmas.{always_first, always_then}
use Rattle.inputs.specs.Tensors.{entries_in, storage_part}
use Rattle.inputs.proofs.tensors.spelled_storage.Goals as goal

pub returns-in-Err : goal.returns-in-Err
returns-in-Err c =
    always_first (gives (entries_in c.args.t.now c.args.text)) (storage_part c.args.t.now.file c.args.t.now) c.in-Err.fault c.in-Err.ensures.comes

pub returns-in-Ok : goal.returns-in-Ok
returns-in-Ok c =
    always_then (gives (entries_in c.args.t.now c.args.text)) (storage_part c.args.t.now.file c.args.t.now) c.in-Ok.entries c.storage.result
    c.in-Ok.ensures.comes c.storage.ensures
