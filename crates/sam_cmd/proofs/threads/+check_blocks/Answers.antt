use Rattle.std.proofs.Common.{subst, sym, List}
use Rattle.std.specs.Prelude.{Result, Err}
use Rattle.sam_base.specs.declared.faults.Fault.{Fault}
use Rattle.sam_model.specs.declared.program.Program.{Program}
use Rattle.parts.specs.Parts.{gives}
use Rattle.parts.specs.Answers.{Comes}
use Rattle.sam_cmd.specs.Steps.{few_blocks}
use Rattle.sam_cmd.proofs.FirstLemmas.{few-refused, few-first}
use Rattle.sam_cmd.proofs.threads.+check_blocks.Goals as goal

pub returns-in-Err : goal.returns-in-Err
returns-in-Err t c = λ files.
    let lowering = c.args.lowering in
    let fault = c.in-Err.fault in
    subst (λ (steps : List Program). Comes (gives (few_blocks lowering steps)) files (Err fault)) (sym c.in-Some.ensures.cases.0)
    (few-refused lowering c.in-Some.program.now c.in-Some.later.now fault c.in-Err.ensures.comes files)

pub returns : goal.returns
returns t c = λ files.
    let lowering = c.args.lowering in
    let r = c.check_blocks.result in
    subst (λ (steps : List Program). Comes (gives (few_blocks lowering steps)) files r) (sym c.in-Some.ensures.cases.0)
    (subst (λ (x : Result (Unit {0}) Fault). Comes (gives x) files r)
    (few-first lowering c.in-Some.program.now c.in-Some.later.now c.in-Ok.field-0 (c.in-Ok.ensures.comes files)) (c.check_blocks.ensures files))
