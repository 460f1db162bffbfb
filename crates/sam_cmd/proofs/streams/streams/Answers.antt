use Rattle.std.specs.Prelude.{Ok}
use Rattle.sam_io.specs.Spans.{files_span}
use Rattle.traces.specs.Traces.{streams_of}
use Rattle.parts.specs.Parts.{gives, followed, each_part}
use Rattle.parts.proofs.ChainLemmas.{comes_first, comes_next, rest_of}
use Rattle.inputs.specs.Programs.{program_part}
use Rattle.inputs.specs.Tensors.{tensor_part}
use Rattle.sam_cmd.specs.Chosen.{chosen}
use Rattle.sam_cmd.proofs.streams.streams.Goals as goal

pub returns-in-Ok-clause-comes : goal.returns-in-Ok-clause-comes
returns-in-Ok-clause-comes g c =
    let old = c.args.files.now in
    let mid = c.program.new.files in
    let new = c.program_streams.new.files in
    comes_next (program_part c.args.name.now)
    (λ p. followed (each_part tensor_part p.tensors) (λ entries. gives (Ok (streams_of p (chosen c.args.lowering p) entries))))
    (files_span g.F.Files old new) (files_span g.F.Files mid new) (rest_of g.F.Files old mid new c.in-Ok.ensures.keeps)
    c.in-Ok.program c.program_streams.result c.in-Ok.ensures.comes c.program_streams.ensures.comes

pub returns-in-Err-clause-comes : goal.returns-in-Err-clause-comes
returns-in-Err-clause-comes g c =
    comes_first (program_part c.args.name.now)
    (λ p. followed (each_part tensor_part p.tensors) (λ entries. gives (Ok (streams_of p (chosen c.args.lowering p) entries))))
    (files_span g.F.Files c.args.files.now c.program.new.files) c.in-Err.fault c.in-Err.ensures.comes
