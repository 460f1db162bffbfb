-- Digits, behind at most a minus.
use Rattle.std.proofs.Common.{◌≡◌, ◌<◌, ◌+◌, ℕ, Bool, true, false, length, get_or, slice_range, arith, sym, ap, ◌∙◌, subst}
use Rattle.std.specs.List.{list_all}
use Rattle.std.proofs.lemmas.Bool.{eqb-true, le-ltb}
use Rattle.sam_text.specs.Bytes.{is_digit}
use Rattle.sam_text.specs.Numbers.{decimal}
use Rattle.tns_io.specs.Values.{signed_value}
use Rattle.tns_io.proofs.PlainLemmas.{PlainValue, value-alone, value-minus, length-slice}
use Rattle.tns_io.proofs.plain.plain_value.Goals as goal
use Rattle.tns_io.proofs.plain.plain_value.Goals.{then-from-text, else-from-text, then-minus, else-minus, In-Ok}

never : (m : Bool) → m ≡ false → m ≡ true → ⊥
never m e f = absurd (cc)

both : (c : In-Ok) → PlainValue (slice_range c.args.text.now c.args.from c.digits_at-number.result.1) c.in-Ok.value
both c = elim c.if-minus.branch [
  | then-minus w ↦
      let text = c.args.text.now in
      let end = c.digits_at-number.result.1 in
      let number = c.digits_at-number.result.0 in
      let minus : get_or text c.args.from 0 ≡ 45 = elim c.if-from-text.branch [
        | then-from-text u ↦ eqb-true (get_or text c.args.from 0) 45 (sym u.minus-is ∙ w.if-minus.true)
        | else-from-text u ↦ absurd (never c.if-from-text.minus (u.minus-is ∙ le-ltb c.args.from (length text) u.if-from-text.false) w.if-minus.true)
      ] in
      let begin : c.if-minus.begin ≡ c.args.from + 1 = w.begin-is in
      let some : c.args.from + 1 < end = omega arith in
      let digits = subst (λ (b : ℕ). list_all is_digit (slice_range text b end) ≡ true) begin c.digits_at-number.ensures.digits in
      value-minus text c.args.from end number c.in-Ok.value minus some c.digits_at-number.ensures.in_text digits (length-slice text (c.args.from + 1) end some c.digits_at-number.ensures.in_text)
      (subst (λ (b : ℕ). number ≡ decimal (slice_range text b end)) begin c.digits_at-number.ensures.number)
      (ap (λ m. signed_value m number) (sym w.if-minus.true) ∙ sym c.keep.ensures ∙ c.in-Ok.is)
  | else-minus w ↦
      let text = c.args.text.now in
      let end = c.digits_at-number.result.1 in
      let number = c.digits_at-number.result.0 in
      let begin : c.if-minus.begin ≡ c.args.from = w.begin-is in
      let some : c.args.from < end = omega arith in
      value-alone (slice_range text c.args.from end) number c.in-Ok.value (length-slice text c.args.from end some c.digits_at-number.ensures.in_text)
      (subst (λ (b : ℕ). list_all is_digit (slice_range text b end) ≡ true) begin c.digits_at-number.ensures.digits)
      (subst (λ (b : ℕ). number ≡ decimal (slice_range text b end)) begin c.digits_at-number.ensures.number)
      (ap (λ m. signed_value m number) (sym w.if-minus.false) ∙ sym c.keep.ensures ∙ c.in-Ok.is)
]

pub returns-in-Ok-clause-value : goal.returns-in-Ok-clause-value
returns-in-Ok-clause-value c = (both c).value

pub returns-in-Ok-clause-word : goal.returns-in-Ok-clause-word
returns-in-Ok-clause-word c = (both c).word
