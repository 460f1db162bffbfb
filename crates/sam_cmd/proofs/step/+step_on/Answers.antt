use Rattle.std.proofs.Common.{subst, List}
use Rattle.std.specs.Prelude.{Ok, Err}
use Rattle.sam_model.specs.declared.tensors.Entries.{Entries}
use Rattle.sam_model.specs.declared.program.Program.{Program}
use Rattle.sam_model.specs.Listing.{listing}
use Rattle.graph.specs.declared.graphs.Graph.{Graph}
use Rattle.parts.specs.Answers.{ComesAlways}
use Rattle.sam_cmd.specs.Chosen.{chosen}
use Rattle.sam_cmd.specs.Steps.{under_options}
use Rattle.sam_cmd.proofs.PassedLemmas.{steps-refused, steps-printed, refused-behind, steps-behind, next-stored}
use Rattle.sam_cmd.proofs.step.+step_on.Goals as goal

pub returns-in-Err : goal.returns-in-Err
returns-in-Err t c = λ es are.
    let options = c.args.options.now in
    let step = c.args.step in
    steps-refused (λ (p : Program). under_options options p (chosen options.lowering p)) step.program.now es step.later.now c.in-Err.fault
    (subst (λ (g : Graph). ComesAlways (under_options options step.program.now g es) (Err c.in-Err.fault)) c.requires.ready.chosen.is_chosen
    (c.in-Err.ensures.comes es are))

pub returns-in-Err-go_on : goal.returns-in-Err-go_on
returns-in-Err-go_on t c = λ es are.
    let options = c.args.options.now in
    let step = c.args.step in
    let listed = listing c.in-Ok.written in
    refused-behind (λ (p : Program). under_options options p (chosen options.lowering p)) step.program.now es listed
    (subst (λ (g : Graph). ComesAlways (under_options options step.program.now g es) (Ok listed)) c.requires.ready.chosen.is_chosen
    (c.in-Ok.ensures.comes es are))
    step.later.now c.in-Err-go_on.fault (c.in-Err-go_on.ensures.comes es are)

pub returns-in-Ok-Text : goal.returns-in-Ok-Text
returns-in-Ok-Text t c = λ es are.
    let options = c.args.options.now in
    let step = c.args.step in
    let listed = listing c.in-Ok.written in
    let came = rw c.in-Ok-Text.field-0-is at (c.in-Ok-Text.ensures.comes es are) in
    steps-printed (λ (p : Program). under_options options p (chosen options.lowering p)) step.program.now es listed
    (subst (λ (g : Graph). ComesAlways (under_options options step.program.now g es) (Ok listed)) c.requires.ready.chosen.is_chosen
    (c.in-Ok.ensures.comes es are))
    step.later.now c.in-Ok-Text.text came.0 came.1

pub returns-in-Ok-Next : goal.returns-in-Ok-Next
returns-in-Ok-Next t c = λ es are.
    let options = c.args.options.now in
    let step = c.args.step in
    let next = c.in-Ok-Next.next in
    let listed = listing c.in-Ok.written in
    let came = rw c.in-Ok-Next.field-0-is at (c.in-Ok-Next.ensures.comes es are) in
    let more : List Entries = came.1.0 in
    steps-behind (λ (p : Program). under_options options p (chosen options.lowering p)) step.program.now es listed
    (subst (λ (g : Graph). ComesAlways (under_options options step.program.now g es) (Ok listed)) c.requires.ready.chosen.is_chosen
    (c.in-Ok.ensures.comes es are))
    step.later.now next.program.now next.later.now more c.step_on.result came.0 came.1.1
    (c.step_on.ensures more
    (next-stored step.program.now next.program.now step.later.now next.later.now more next.storages c.requires.ready.follow came.0 came.1.2))
