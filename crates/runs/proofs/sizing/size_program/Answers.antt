use Rattle.std.proofs.Common.{inr}
use Rattle.sam_sizing.specs.declared.least.Least.TheVariants.{Above}
use Rattle.runs.proofs.SizeLemmas.{made-for, sized-with, sized-text}
use Rattle.runs.proofs.sizing.size_program.Goals as goal

pub least_capacity-requires-clause-own : goal.least_capacity-requires-clause-own
least_capacity-requires-clause-own c =
    let stored = c.requires.stored in
    (c.args.storages.now, made-for c.args.p.now c.args.g.now c.requires.computes stored.0 c.args.storages.now stored.1)

pub returns-in-Ok-Above : goal.returns-in-Ok-Above
returns-in-Ok-Above c = λ es are files.
    let found = rw c.in-Ok-Above.field-0-is at c.in-Ok-Above.ensures in
    inr (
      sized-with c.args.p.now c.args.g.now c.requires.computes es c.args.storages.now are (Above c.in-Ok-Above.list) found,
      tt,
    )

pub returns-in-Ok : goal.returns-in-Ok
returns-in-Ok c = λ es are files.
    let found = rw c.in-Ok-Found.field-0-is at c.in-Ok-Found.ensures in
    sized-text c.args.p.now c.args.g.now c.requires.computes es c.args.storages.now are c.in-Ok-Found.capacity
    c.in-Ok-Found.below c.as_slice.result.now c.in-Ok.text found c.as_slice.ensures c.in-Ok.ensures
