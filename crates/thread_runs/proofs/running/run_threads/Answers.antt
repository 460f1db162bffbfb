use Rattle.std.proofs.Common.{◌∙◌, ap, subst, sym}
use Rattle.sam_model.specs.Listing.{listing}
use Rattle.graph.specs.Writers.{written_listing}
use Rattle.machines.proofs.ProgramMachines.{program-runs}
use Rattle.runs.specs.Results.{IsOf}
use Rattle.runs.proofs.WrittenResults.{written-is-of, written-found}
use Rattle.thread_runs.proofs.running.run_threads.Goals as goal

pub run_writers-requires-clause-runnable : goal.run_writers-requires-clause-runnable
run_writers-requires-clause-runnable g c κs within =
    let stored = c.requires.stored in
    program-runs c.args.p.now c.args.g.now c.requires.computes stored.0 c.args.storages.now stored.1

pub program_result-requires-clause-of : goal.program_result-requires-clause-of
program_result-requires-clause-of g c =
    let p = c.args.p.now in
    let graph = c.args.g.now in
    let storages = c.args.storages.now in
    let stored = c.requires.stored in
    let written = c.in-Ok.ensures ∙ ap (written_listing storages graph) c.len-levels.ensures in
    subst (λ w. IsOf p.result w) (sym written) (written-is-of p graph c.requires.computes stored.0 storages stored.1)

pub program_result-requires-clause-found : goal.program_result-requires-clause-found
program_result-requires-clause-found g c =
    let p = c.args.p.now in
    let graph = c.args.g.now in
    let storages = c.args.storages.now in
    let stored = c.requires.stored in
    let written = c.in-Ok.ensures ∙ ap (written_listing storages graph) c.len-levels.ensures in
    (stored.0, ap listing written ∙ written-found p graph c.requires.computes stored.0 storages stored.1 c.requires.accepted)

pub returns-in-Ok-clause-runs : goal.returns-in-Ok-clause-runs
returns-in-Ok-clause-runs g c = λ es are.
    let p = c.args.p.now in
    let graph = c.args.g.now in
    let storages = c.args.storages.now in
    let written = c.in-Ok.ensures ∙ ap (written_listing storages graph) c.len-levels.ensures in
    c.program_result.ensures.listed es (ap listing written ∙ written-found p graph c.requires.computes es storages are c.requires.accepted)
