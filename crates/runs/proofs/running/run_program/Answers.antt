use Rattle.std.proofs.Common.{◌∙◌, ap, inl, inr, subst, sym}
use Rattle.sam_model.specs.Listing.{listing}
use Rattle.graph.specs.Writers.{written_listing}
use Rattle.machines.proofs.ProgramMachines.{program-runs}
use Rattle.runs.specs.Results.{IsOf, as_listed}
use Rattle.runs.proofs.RunLemmas.{stalls_with, finishes_with}
use Rattle.runs.proofs.WrittenResults.{written-is-of, written-found}
use Rattle.runs.proofs.running.run_program.Goals as goal

pub run-requires-clause-runnable : goal.run-requires-clause-runnable
run-requires-clause-runnable c =
    let stored = c.requires.stored in
    program-runs c.args.p.now c.args.g.now c.requires.computes stored.0 c.args.storages.now stored.1

pub program_result-requires-clause-of : goal.program_result-requires-clause-of
program_result-requires-clause-of c =
    let p = c.args.p.now in
    let g = c.args.g.now in
    let storages = c.args.storages.now in
    let stored = c.requires.stored in
    let left = rw c.in-Ok-Listing.field-0-is at c.in-Ok-Listing.ensures in
    let written = left.written ∙ ap (written_listing storages g) c.len-levels.ensures in
    subst (λ w. IsOf p.result w) (sym written) (written-is-of p g c.requires.computes stored.0 storages stored.1)

pub program_result-requires-clause-found : goal.program_result-requires-clause-found
program_result-requires-clause-found c =
    let p = c.args.p.now in
    let g = c.args.g.now in
    let storages = c.args.storages.now in
    let stored = c.requires.stored in
    let left = rw c.in-Ok-Listing.field-0-is at c.in-Ok-Listing.ensures in
    let written = left.written ∙ ap (written_listing storages g) c.len-levels.ensures in
    (stored.0, ap listing written ∙ written-found p g c.requires.computes stored.0 storages stored.1 c.requires.accepted)

pub returns-in-Ok-Waits-clause-runs : goal.returns-in-Ok-Waits-clause-runs
returns-in-Ok-Waits-clause-runs c = λ es are.
    let left = rw c.in-Ok-Waits.field-0-is at c.in-Ok-Waits.ensures in
    inl (stalls_with c.args.p.now c.args.g.now c.requires.computes es c.args.storages.now are c.args.capacities.now.each c.in-Ok-Waits.list left)

pub returns-in-Ok-Listing-clause-runs : goal.returns-in-Ok-Listing-clause-runs
returns-in-Ok-Listing-clause-runs c = λ es are.
    let p = c.args.p.now in
    let g = c.args.g.now in
    let storages = c.args.storages.now in
    let left = rw c.in-Ok-Listing.field-0-is at c.in-Ok-Listing.ensures in
    let written = left.written ∙ ap (written_listing storages g) c.len-levels.ensures in
    let found = ap listing written ∙ written-found p g c.requires.computes es storages are c.requires.accepted in
    elim (c.program_result.ensures.listed es found) [
      | inl is ↦ inl (finishes_with p g c.requires.computes es storages are c.args.capacities.now.each c.len-levels.result
          c.in-Ok-Listing.written (as_listed c.program_result.result) left is)
      | inr none ↦ inr none
    ]
