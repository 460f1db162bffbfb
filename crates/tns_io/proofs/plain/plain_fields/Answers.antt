-- Field by field, up to the newline.
use Rattle.std.proofs.Common.{◌≡◌, ◌<◌, ◌+◌, ℕ, suc, List, true, refl, length, get_or, take, drop, slice_range, arith, sym, ap, ◌∙◌}
use Rattle.std.specs.List.{before_first}
use Rattle.sam_text.specs.Bytes.{is_blank, is_newline}
use Rattle.sam_text.specs.Words.{words}
use Rattle.tns_io.specs.Answers.{coordinates_then}
use Rattle.tns_io.specs.Fields.{fields_of}
use Rattle.tns_io.proofs.PlainLemmas.{field-read, last-read, coordinate-read, value-read, length-slice, kept-more}
use Rattle.tns_io.proofs.plain.plain_fields.Goals as goal

pub loop-size-preserved : goal.loop-size-preserved
loop-size-preserved c =
    let text = c.args.text.now in
    let sizes = c.args.sizes.now in
    let at = c.loop-size.at in
    let end = c.digits_at-number.result.1 in
    let coords = c.loop-size.coords.items in
    let rest = words (before_first is_newline (drop (end + 1) text)) in
    let some : at < end = omega arith in
    let within : end < length text = omega arith in
    let blank : is_blank (get_or text end 0) ≡ true = sym c.is_blank.ensures ∙ c.if-not-is_blank.false in
    let step = field-read text at end some within c.digits_at-number.ensures.digits blank in
    let words-are = step.words in
    let one : length (words (before_first is_newline (drop at text))) ≡ 1 + length rest = ap length words-are ∙ plus (length rest) in
    let room = c.loop-size.invariant.room in
    let counted = c.loop-size.invariant.counted in
    record {
      room = omega (arith, c.push_reserved.ensures.len, c.push_reserved.ensures.capacity, room, c.loop-size-test.true);
      place = (let place = c.loop-size.invariant.place in omega arith);
      in_text = omega arith;
      read = ap (λ (cs : List ℕ). coordinates_then cs (fields_of (drop (c.loop-size.size-index + 1) sizes) rest)) c.push_reserved.ensures.items
          ∙ coordinate-read coords sizes c.loop-size.size-index (get_or sizes c.loop-size.size-index 0) c.digits_at-number.result.0 c.in-Ok.coordinate (slice_range text at end) rest
          c.loop-size-test.true refl (length-slice text at end some c.digits_at-number.ensures.in_text) c.digits_at-number.ensures.digits c.digits_at-number.ensures.number (sym c.coordinate_of.ensures ∙ c.in-Ok.is)
          ∙ ap (λ (ws : List (List ℕ)). coordinates_then coords (fields_of (drop c.loop-size.size-index sizes) ws)) (sym words-are)
          ∙ c.loop-size.invariant.read;
      counted = omega (arith, counted, one);
      behind = c.loop-size.invariant.behind ∙ step.after;
      kept = ap (λ (cs : List ℕ). take (length c.args.coords.now.items) cs) c.push_reserved.ensures.items ∙ kept-more c.args.coords.now.items coords c.in-Ok.coordinate c.loop-size.invariant.kept;
    }
  where
    plus : (n : ℕ) → suc n ≡ 1 + n
    plus n = omega arith

pub returns-clause-fields : goal.returns-clause-fields
returns-clause-fields c =
    sym c.loop-size.invariant.read
    ∙ value-read c.loop-size.coords.items c.args.sizes.now c.loop-size.size-index c.in_ok-value.value (slice_range c.args.text.now c.loop-size.at c.in_ok-value.end)
    (words (before_first is_newline (drop c.loop-size.at c.args.text.now))) (omega arith)
    (last-read c.args.text.now c.loop-size.at c.in_ok-value.end c.in_ok-value.ensures.some (omega arith) c.in_ok-value.ensures.word c.if-text-end-ne10.false).words c.in_ok-value.ensures.value

pub returns-clause-counted : goal.returns-clause-counted
returns-clause-counted c =
    let words-are = (last-read c.args.text.now c.loop-size.at c.in_ok-value.end c.in_ok-value.ensures.some (omega arith) c.in_ok-value.ensures.word c.if-text-end-ne10.false).words in
    let one : length (words (before_first is_newline (drop c.loop-size.at c.args.text.now))) ≡ 1 = ap length words-are in
    let counted = c.loop-size.invariant.counted in
    omega (arith, counted, one)

pub returns-clause-behind : goal.returns-clause-behind
returns-clause-behind c =
    c.loop-size.invariant.behind
    ∙ (last-read c.args.text.now c.loop-size.at c.in_ok-value.end c.in_ok-value.ensures.some (omega arith) c.in_ok-value.ensures.word c.if-text-end-ne10.false).after
