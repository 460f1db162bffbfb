use Rattle.std.proofs.Common.{◌≡◌, ◌<◌, ◌⊎◌, inl, inr, length, slice_range, Some, None, arith, sym, ◌∙◌}
use Rattle.std.specs.List.{prefix_len}
use Rattle.std.proofs.lemmas.Bool.{eqb-true, eqb-false}
use Rattle.sam_text.specs.Bytes.{is_digit}
use Rattle.sam_text.proofs.numbers.read_u64.Goals as goal
use Rattle.sam_text.proofs.numbers.read_u64.Goals.{then-is_empty-via-then-is_empty, then-is_empty-via-else-is_empty+then-count-digits}
use Rattle.sam_text.proofs.DecimalLemmas.{all_digits, is_decimal-false, is_decimal-true, number_at-bad, number_at-value}

pub number_of-requires : goal.number_of-requires
number_of-requires c =
    let part = slice_range c.args.text.now c.args.from c.args.to in
    all_digits part (omega (arith, c.digit_count-count.ensures))

pub returns-then-is_empty : goal.returns-then-is_empty
returns-then-is_empty c =
    let part = slice_range c.args.text.now c.args.from c.args.to in
    let either : (prefix_len is_digit part < length part) ⊎ (length part ≡ 0) = elim c.then-is_empty.branch [
      | then-is_empty-via-then-is_empty w ↦ inr (eqb-true _ _ (sym c.is_empty.ensures ∙ w.if-is_empty.true))
      | then-is_empty-via-else-is_empty+then-count-digits w ↦ inl (omega (arith, c.digit_count-count.ensures))
    ] in
    number_at-bad c.args.from part c.digit_count-count.result (is_decimal-false part either) c.digit_count-count.ensures

pub returns-in-Some : goal.returns-in-Some
returns-in-Some c =
    let part = slice_range c.args.text.now c.args.from c.args.to in
    let no = eqb-false (length part) 0 (sym c.is_empty.ensures ∙ c.if-is_empty.false) in
    number_at-value c.args.from part (Some c.in-Some.number) (is_decimal-true part (omega arith) (all_digits part (omega (arith, c.digit_count-count.ensures)))) c.in-Some.ensures

pub returns-in-None : goal.returns-in-None
returns-in-None c =
    let part = slice_range c.args.text.now c.args.from c.args.to in
    let no = eqb-false (length part) 0 (sym c.is_empty.ensures ∙ c.if-is_empty.false) in
    number_at-value c.args.from part None (is_decimal-true part (omega arith) (all_digits part (omega (arith, c.digit_count-count.ensures)))) c.in-None.ensures
