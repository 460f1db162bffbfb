use Rattle.std.proofs.Common.{subst, sym, List}
use Rattle.std.specs.Prelude.{Ok}
use Rattle.sam_model.specs.declared.tensors.Entries.{Entries}
use Rattle.sam_model.specs.Children.{Ranked}
use Rattle.sam_model.specs.Listing.{listing}
use Rattle.inputs.specs.Tensors.{AreStored}
use Rattle.sam_cmd.specs.Steps.{by_threads}
use Rattle.sam_cmd.proofs.PrintedLemmas.{comes_result}
use Rattle.sam_cmd.proofs.PassedLemmas.{refused-behind, steps-behind, next-stored}
use Rattle.sam_cmd.proofs.threads.+run_on.Goals as goal

pub returns-in-Err-go_on : goal.returns-in-Err-go_on
returns-in-Err-go_on g t c = λ es are.
    let step = c.args.step in
    let p = step.program.now in
    let stored = subst (λ (s : List Ranked). AreStored p.tensors es s) (sym c.as_slice-storages.ensures) are in
    refused-behind by_threads p es (listing c.in-Ok.written) (comes_result p es (Ok c.in-Ok.written) (c.in-Ok.ensures.runs es stored))
    step.later.now c.in-Err-go_on.fault (c.in-Err-go_on.ensures.comes es are)

pub returns-in-Ok-Next : goal.returns-in-Ok-Next
returns-in-Ok-Next g t c = λ es are.
    let step = c.args.step in
    let p = step.program.now in
    let next = c.in-Ok-Next.next in
    let stored = subst (λ (s : List Ranked). AreStored p.tensors es s) (sym c.as_slice-storages.ensures) are in
    let came = rw c.in-Ok-Next.field-0-is at (c.in-Ok-Next.ensures.comes es are) in
    let more : List Entries = came.1.0 in
    steps-behind by_threads p es (listing c.in-Ok.written) (comes_result p es (Ok c.in-Ok.written) (c.in-Ok.ensures.runs es stored))
    step.later.now next.program.now next.later.now more c.run_on.result came.0 came.1.1
    (c.run_on.ensures more
    (next-stored p next.program.now step.later.now next.later.now more next.storages c.requires.ready.follow came.0 came.1.2))
