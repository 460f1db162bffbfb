use Rattle.sam_io.specs.Spans.{files_span}
use Rattle.parts.specs.Parts.{reads, gives, followed}
use Rattle.parts.proofs.ChainLemmas.{comes_then}
use Rattle.inputs.specs.Tensors.{entries_in, storage_part}
use Rattle.inputs.proofs.tensors.stored.Goals as goal

pub returns-in-Ok-clause-comes : goal.returns-in-Ok-clause-comes
returns-in-Ok-clause-comes g c =
    let t = c.args.t.now in
    comes_then (reads t.file) (λ text. followed (gives (entries_in t text)) (storage_part t.file t))
    (files_span g.F.Files c.args.files.now c.read_file.new.files) c.in-Ok.text c.spelled_storage.result c.in-Ok.ensures.comes
    c.spelled_storage.ensures
