use Rattle.std.proofs.Common.{sym, subst, ℕ, List}
use Rattle.std.specs.Prelude.{Option}
use Rattle.sam_text.specs.Lines.{lines}
use Rattle.sam_text.specs.Counted.{counted_lines}
use Rattle.parts.specs.Parts.{gives}
use Rattle.parts.specs.Answers.{ComesAlways}
use Rattle.schedules.specs.Schedules.{turns_of, schedule_in}
use Rattle.schedules.proofs.reading.schedule.Goals as goal

pub returns-in-Some-clause-comes : goal.returns-in-Some-clause-comes
returns-in-Some-clause-comes c =
    let blocks = c.args.blocks in
    let spelled =
    subst (λ (bytes : List ℕ). ComesAlways (gives (turns_of blocks (counted_lines 1 (lines bytes)))) c.turns.result) c.as_bytes.ensures
    c.turns.ensures.comes in
    subst (λ (text : Option (List ℕ)). ComesAlways (gives (schedule_in blocks text)) c.turns.result) (sym c.in-Some.is) spelled
