use Rattle.std.proofs.Common.{subst, sym, List}
use Rattle.sam_model.specs.Children.{Ranked}
use Rattle.parts.specs.Parts.{gives}
use Rattle.parts.proofs.ChainLemmas.{always_first, always_then}
use Rattle.inputs.specs.Tensors.{AreStored}
use Rattle.runs.specs.Results.{as_listed}
use Rattle.runs.specs.Runs.{run_part}
use Rattle.runs.specs.Setups.{given_to}
use Rattle.sam_cmd.proofs.PrintedLemmas.{comes_run}
use Rattle.sam_cmd.proofs.step.run_under.Goals as goal

pub returns-in-Err-clause-comes : goal.returns-in-Err-clause-comes
returns-in-Err-clause-comes c = λ entries are.
    let step = c.args.step.now in
    always_first (gives (given_to step.graph c.args.options.now)) (run_part step.program.now step.graph entries) c.in-Err.fault c.in-Err.ensures.comes

pub returns-clause-comes : goal.returns-clause-comes
returns-clause-comes c = λ entries are.
    let step = c.args.step.now in
    let each = c.in-Ok.each in
    always_then (gives (given_to step.graph c.args.options.now)) (run_part step.program.now step.graph entries) each (as_listed c.run_program.result) c.in-Ok.ensures.comes
    (comes_run step.program.now step.graph entries each c.run_program.result
    (c.run_program.ensures.runs entries (subst (λ (s : List Ranked). AreStored step.program.now.tensors entries s) (sym c.as_slice-storages.ensures) are)))
