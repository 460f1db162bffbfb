use Rattle.std.proofs.Common.{◌∙◌, ◌<◌, ap, sym, subst, inr, ℕ, List, [], ◌∷◌}
use Rattle.std.proofs.lemmas.List.Elements.{All-append, All-cons, All-nil}
use Rattle.std.specs.Prelude.{Option, All}
use Rattle.sam_base.specs.declared.faults.Fault.TheVariants.{Schedule}
use Rattle.sam_text.specs.Counted.{NumberedLine}
use Rattle.sam_text.specs.Remaining.{lines_left}
use Rattle.schedules.specs.Schedules.{turns_of, with_turn}
use Rattle.schedules.proofs.TurnLemmas.{turns_then, then_more, then_none, then_bad}
use Rattle.schedules.proofs.reading.turns.Goals as goal

pub returns-in-None-clause-comes : goal.returns-in-None-clause-comes
returns-in-None-clause-comes c = λ files.
    let done = c.loop-line.schedule in
    let blocks = c.args.blocks in
    let number = c.in-Ok.line.number in
    let later = turns_of blocks (lines_left c.next.new.self) in
    let bad =
    sym c.loop-line.invariant.read
    ∙ ap (λ (ls : List NumberedLine). turns_then done (turns_of blocks ls)) c.in-Ok.ensures.next
    ∙ ap (λ (turn : Option ℕ). turns_then done (with_turn number turn later)) (sym c.turn.ensures.read ∙ c.in-None.is)
    ∙ then_bad done (Schedule number) in
    inr (sym bad, tt)

pub loop-line-preserved : goal.loop-line-preserved
loop-line-preserved c =
    let done = c.loop-line.schedule in
    let blocks = c.args.blocks in
    let number = c.in-Ok.line.number in
    let block = c.in-Some.block in
    let later = turns_of blocks (lines_left c.next.new.self) in
    record {
      read =
          ap (λ (s : List ℕ). turns_then s later) c.in-Ok-push.ensures.ok
          ∙ sym (then_more done number block later)
          ∙ ap (λ (turn : Option ℕ). turns_then done (with_turn number turn later)) (sym (sym c.turn.ensures.read ∙ c.in-Some.is))
          ∙ ap (λ (ls : List NumberedLine). turns_then done (turns_of blocks ls)) (sym c.in-Ok.ensures.next)
          ∙ c.loop-line.invariant.read;
      below =
          let fits = λ (b : ℕ). b < blocks in
          subst (All fits) (sym c.in-Ok-push.ensures.ok)
          (All-append fits done (block ∷ []) c.loop-line.invariant.below (All-cons fits block [] c.in-Some.ensures.below (All-nil fits)));
    }

pub returns-clause-comes : goal.returns-clause-comes
returns-clause-comes c = λ files.
    let done = c.loop-line.schedule in
    let blocks = c.args.blocks in
    sym (
    sym c.loop-line.invariant.read
    ∙ ap (λ (ls : List NumberedLine). turns_then done (turns_of blocks ls)) c.in_default.ensures.next.none
    ∙ then_none done
    )
