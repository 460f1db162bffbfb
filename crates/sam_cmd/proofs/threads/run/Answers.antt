use Rattle.std.proofs.Common.{subst, List}
use Rattle.sam_io.specs.Spans.{files_span}
use Rattle.sam_model.specs.declared.program.Program.{Program}
use Rattle.sam_model.specs.declared.program.Chain.{Chain}
use Rattle.parts.specs.Answers.{Comes}
use Rattle.parts.proofs.ChainLemmas.{comes_next, rest_of}
use Rattle.inputs.specs.Programs.{chain_part}
use Rattle.sam_cmd.specs.Commands.{threaded_part}
use Rattle.sam_cmd.proofs.threads.run.Goals as goal

pub returns-in-Ok : goal.returns-in-Ok
returns-in-Ok g c =
    let lowering = c.args.lowering in
    let old = c.args.files.now in
    let mid = c.chain.new.files in
    let new = c.run_steps.new.files in
    let rest = files_span g.F.Files mid new in
    comes_next (chain_part c.args.name.now) (λ (chain : Chain). threaded_part lowering chain.steps)
    (files_span g.F.Files old new) rest (rest_of g.F.Files old mid new c.in-Ok.ensures.keeps) c.in-Ok.chain c.run_steps.result c.in-Ok.ensures.comes
    (subst (λ (steps : List Program). Comes (threaded_part lowering steps) rest c.run_steps.result) c.as_slice-steps.ensures c.run_steps.ensures)
