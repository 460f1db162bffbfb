use Rattle.program_file.proofs.FileLemmas.{if-accepted}
use Rattle.program_file.proofs.CompleteLemmas.{if-complete, file-read}
use Rattle.program_file.proofs.programs.read_program.Goals as goal

pub returns-clause-accepted : goal.returns-clause-accepted
returns-clause-accepted c = if-accepted c.args.text.now c.in_ok-file.file c.check_file.result c.requires c.in_ok-file.ensures c.check_file.ensures

pub returns-clause-complete : goal.returns-clause-complete
returns-clause-complete c = λ p w e. if-complete c.args.text.now c.check_file.result c.requires (file-read c.args.text.now c.in_ok-file.file c.check_file.result c.in_ok-file.ensures c.check_file.ensures) p w e
