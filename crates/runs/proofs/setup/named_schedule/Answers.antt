use Rattle.std.proofs.Common.{sym, subst, length, ℕ, List}
use Rattle.std.specs.Prelude.{Option}
use Rattle.sam_io.specs.Spans.{files_span}
use Rattle.parts.specs.Parts.{gives, reads}
use Rattle.parts.specs.Answers.{Comes, ComesAlways}
use Rattle.parts.proofs.ChainLemmas.{comes_then}
use Rattle.schedules.specs.Schedules.{schedule_in}
use Rattle.runs.specs.Setups.{schedule_part}
use Rattle.runs.proofs.setup.named_schedule.Goals as goal

pub returns-in-Ok-clause-comes : goal.returns-in-Ok-clause-comes
returns-in-Ok-clause-comes g c =
    let span = files_span g.F.Files c.args.files.now c.read_file.new.files in
    let blocks = length c.args.g.now.blocks in
    let spelled =
    subst (λ (n : ℕ). ComesAlways (gives (schedule_in n c.in-Ok.text)) c.schedule.result) c.len.ensures c.schedule.ensures.comes in
    let read =
    comes_then (reads c.in-Some.name) (λ text. gives (schedule_in blocks text)) span c.in-Ok.text c.schedule.result
    c.in-Ok.ensures.comes spelled in
    subst (λ (name : Option (List ℕ)). Comes (schedule_part blocks name) span c.schedule.result) (sym c.in-Some.is) read
