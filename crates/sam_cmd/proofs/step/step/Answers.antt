use Rattle.std.proofs.Common.{subst, List}
use Rattle.std.specs.Prelude.{Err}
use Rattle.sam_io.specs.Spans.{files_span}
use Rattle.sam_model.specs.declared.program.Program.{Program}
use Rattle.sam_model.specs.declared.program.Chain.{Chain}
use Rattle.parts.specs.Parts.{gives, followed}
use Rattle.parts.specs.Answers.{Comes}
use Rattle.parts.proofs.ChainLemmas.{comes_from, comes_next, comes_then, always_first, rest_of}
use Rattle.inputs.specs.Programs.{chain_part}
use Rattle.sam_cmd.specs.Steps.{under_which}
use Rattle.sam_cmd.specs.Commands.{stepped_part}
use Rattle.sam_cmd.proofs.DenotedLemmas.{which-all}
use Rattle.sam_cmd.proofs.FirstLemmas.{which-refused}
use Rattle.sam_cmd.proofs.step.step.Goals as goal

pub run_steps-requires-clause-some : goal.run_steps-requires-clause-some
run_steps-requires-clause-some g c =
    rw (c.as_slice.ensures, which-all c.args.options.now c.in-Ok.chain c.in-Ok-steps_under.steps c.in-Ok-steps_under.ensures) c.in-Ok.ensures.read.some

pub returns-in-Err-steps_under : goal.returns-in-Err-steps_under
returns-in-Err-steps_under g c =
    let options = c.args.options.now in
    let fault = c.in-Err-steps_under.fault in
    comes_then (chain_part c.args.name.now) (λ (chain : Chain). followed (gives (under_which options chain)) (stepped_part options))
    (files_span g.F.Files c.args.files.now c.chain.new.files) c.in-Ok.chain (Err fault) c.in-Ok.ensures.comes
    (always_first (gives (under_which options c.in-Ok.chain)) (stepped_part options) fault
    (which-refused options c.in-Ok.chain fault c.in-Err-steps_under.ensures))

pub returns-in-Ok-steps_under : goal.returns-in-Ok-steps_under
returns-in-Ok-steps_under g c =
    let options = c.args.options.now in
    let old = c.args.files.now in
    let mid = c.chain.new.files in
    let new = c.run_steps.new.files in
    let rest = files_span g.F.Files mid new in
    let r = c.run_steps.result in
    comes_next (chain_part c.args.name.now) (λ (chain : Chain). followed (gives (under_which options chain)) (stepped_part options))
    (files_span g.F.Files old new) rest (rest_of g.F.Files old mid new c.in-Ok.ensures.keeps) c.in-Ok.chain r c.in-Ok.ensures.comes
    (comes_from (gives (under_which options c.in-Ok.chain)) (stepped_part options) rest c.in-Ok-steps_under.steps r (λ files. c.in-Ok-steps_under.ensures)
    (subst (λ (steps : List Program). Comes (stepped_part options steps) rest r) c.as_slice.ensures c.run_steps.ensures))
