use Rattle.sam_io.specs.Spans.{files_span}
use Rattle.parts.specs.Parts.{followed}
use Rattle.parts.proofs.ChainLemmas.{comes_first, comes_next, rest_of}
use Rattle.inputs.specs.Programs.{program_part}
use Rattle.runs.specs.Setups.{setup_part}
use Rattle.sam_cmd.specs.Chosen.{chosen}
use Rattle.sam_cmd.specs.Commands.{sent_part}
use Rattle.sam_cmd.proofs.moment.moment.Goals as goal

pub returns-in-Err-clause-comes : goal.returns-in-Err-clause-comes
returns-in-Err-clause-comes g c =
    let options = c.args.options.now in
    comes_first (program_part c.args.name.now)
    (λ p. followed (setup_part (chosen options.lowering p) options) (sent_part p (chosen options.lowering p)))
    (files_span g.F.Files c.args.files.now c.program.new.files) c.in-Err.fault c.in-Err.ensures.comes

pub returns-in-Ok-clause-comes : goal.returns-in-Ok-clause-comes
returns-in-Ok-clause-comes g c =
    let old = c.args.files.now in
    let mid = c.program.new.files in
    let new = c.under_options.new.files in
    let options = c.args.options.now in
    comes_next (program_part c.args.name.now)
    (λ p. followed (setup_part (chosen options.lowering p) options) (sent_part p (chosen options.lowering p)))
    (files_span g.F.Files old new) (files_span g.F.Files mid new) (rest_of g.F.Files old mid new c.in-Ok.ensures.keeps)
    c.in-Ok.program c.under_options.result c.in-Ok.ensures.comes c.under_options.ensures.comes
