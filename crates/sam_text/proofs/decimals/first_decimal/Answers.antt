-- The digits behind the gaps are the first word.
use Rattle.std.proofs.Common.{◌≡◌, ◌-◌, ◌<◌, ◌∷◌, Bool, true, false, not, refl, length, get_or, take, drop, arith, ap, sym, ◌∙◌}
use Rattle.std.proofs.lemmas.List.{length-drop, length-take-le, take_all}
use Rattle.sam_text.specs.Bytes.{is_gap}
use Rattle.sam_text.specs.Words.{words}
use Rattle.sam_text.proofs.DecimalLemmas.{is_decimal-true}
use Rattle.sam_text.proofs.PlaceLemmas.{words_past_gaps, digits-first}
use Rattle.sam_text.proofs.decimals.first_decimal.Goals as goal
use Rattle.sam_text.proofs.decimals.first_decimal.Goals.{then-count-word, else-count-word}

opened : (v b : Bool) → v ≡ not b → v ≡ false → b ≡ true
opened v true e f = refl
opened v false e f = absurd (cc)

pub returns : goal.returns
returns c =
    let some : 0 < c.leading_number-number.result.1 = omega arith in
    let ends : c.leading_number-number.result.1 < length c.behind_gaps-word.result.now → is_gap (get_or c.behind_gaps-word.result.now c.leading_number-number.result.1 0) ≡ true = λ l. elim c.if-count-word.branch [
      | then-count-word w ↦ sym w.is_gap.ensures ∙ opened c.if-count-word.value w.is_gap.result w.value-is c.if-not-is_gap.false
      | else-count-word w ↦ absurd (omega arith)
    ] in
    let rest : take (length c.behind_gaps-word.result.now - c.leading_number-number.result.1) (drop c.leading_number-number.result.1 c.behind_gaps-word.result.now) ≡ drop c.leading_number-number.result.1 c.behind_gaps-word.result.now
    = take_all (length c.behind_gaps-word.result.now - c.leading_number-number.result.1) (drop c.leading_number-number.result.1 c.behind_gaps-word.result.now) (omega (arith, length-drop c.leading_number-number.result.1 c.behind_gaps-word.result.now)) in (
      take c.leading_number-number.result.1 c.behind_gaps-word.result.now,
      words_past_gaps c.args.line.now
          ∙ ap words (sym c.behind_gaps-word.ensures)
          ∙ digits-first c.leading_number-number.result.1 c.behind_gaps-word.result.now some c.leading_number-number.ensures.within c.leading_number-number.ensures.digits ends
          ∙ ap (λ tail. take c.leading_number-number.result.1 c.behind_gaps-word.result.now ∷ words tail) (sym rest),
      is_decimal-true (take c.leading_number-number.result.1 c.behind_gaps-word.result.now) (let within = c.leading_number-number.ensures.within in omega (arith, within, length-take-le c.leading_number-number.result.1 c.behind_gaps-word.result.now within)) c.leading_number-number.ensures.digits,
      sym c.leading_number-number.ensures.number,
    )
