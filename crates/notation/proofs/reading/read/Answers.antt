use Rattle.std.proofs.Common.{◌≡◌, length, drop, ap, sym, subst, ◌∙◌, [], ◌∷◌}
use Rattle.std.proofs.lemmas.Result.{err_from_is_err_and}
use Rattle.notation.specs.Tokens.{tokens}
use Rattle.notation.specs.Positions.{statement_reading, run}
use Rattle.notation.specs.Refusals.{GivesNote}
use Rattle.notation.proofs.First.{run-ok, run-nil, fault_goes}
use Rattle.notation.proofs.reading.read.Goals as goal

pub returns-in_err-state : goal.returns-in_err-state
returns-in_err-state c =
    let text = c.args.text.now in
    let found = c.in-Some.field-0 in
    let next : tokens 0 c.loop-state.at (drop c.loop-state.at text) ≡ found.placed ∷ tokens 0 found.end (drop found.end text) = rw c.in-Some.is at c.in_ok-placed.ensures.next in
    let p = err_from_is_err_and c.from_residual-in_err-state.result c.from_residual-in_err-state.ensures.1 in
    rw (p.1, p.2) (fault_goes c.in_err-state.field-0.0 (length text) c.loop-state.state found.placed (tokens 0 found.end (drop found.end text)) (statement_reading text) c.in_err-state.ensures (sym (ap (λ ts. run (length text) c.loop-state.state ts) next) ∙ c.loop-state.invariant.same))

pub loop-state-preserved : goal.loop-state-preserved
loop-state-preserved c =
    let text = c.args.text.now in
    let found = c.in-Some.field-0 in
    let next : tokens 0 c.loop-state.at (drop c.loop-state.at text) ≡ found.placed ∷ tokens 0 found.end (drop found.end text) = rw c.in-Some.is at c.in_ok-placed.ensures.next in
    record {
      in_text = (rw c.in-Some.is at c.in_ok-placed.ensures.within).1;
      same = sym (run-ok (length text) c.loop-state.state c.in_ok-state.state found.placed (tokens 0 found.end (drop found.end text)) c.in_ok-state.ensures) ∙ sym (ap (λ ts. run (length text) c.loop-state.state ts) next) ∙ c.loop-state.invariant.same;
    }

pub returns : goal.returns
returns c =
    let text = c.args.text.now in
    let none : tokens 0 c.loop-state.at (drop c.loop-state.at text) ≡ [] = rw c.in_default.is at c.in_ok-placed.ensures.next in
    subst (λ q. GivesNote c.finish.result q) (sym (run-nil (length text) c.loop-state.state) ∙ sym (ap (λ ts. run (length text) c.loop-state.state ts) none) ∙ c.loop-state.invariant.same) c.finish.ensures
