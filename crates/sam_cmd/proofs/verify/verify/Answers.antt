use Rattle.sam_io.specs.Spans.{files_span}
use Rattle.parts.proofs.ChainLemmas.{comes_first, comes_next, rest_of}
use Rattle.inputs.specs.Programs.{program_part}
use Rattle.verdicts.specs.Verifying.{verification_part}
use Rattle.sam_cmd.proofs.verify.verify.Goals as goal

pub returns-in-Ok-clause-comes : goal.returns-in-Ok-clause-comes
returns-in-Ok-clause-comes g c =
    let old = c.args.files.now in
    let mid = c.program.new.files in
    let new = c.verify_program.new.files in
    comes_next (program_part c.args.name.now) (verification_part c.args.graph.now)
    (files_span g.F.Files old new) (files_span g.F.Files mid new) (rest_of g.F.Files old mid new c.in-Ok.ensures.keeps)
    c.in-Ok.program c.verify_program.result c.in-Ok.ensures.comes c.verify_program.ensures.comes

pub returns-in-Err-clause-comes : goal.returns-in-Err-clause-comes
returns-in-Err-clause-comes g c =
    comes_first (program_part c.args.name.now) (verification_part c.args.graph.now)
    (files_span g.F.Files c.args.files.now c.program.new.files) c.in-Err.fault c.in-Err.ensures.comes
