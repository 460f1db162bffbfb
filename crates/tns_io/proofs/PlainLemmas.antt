-- Plain lines: words read one after another, up to a newline that isn't looked for first.
use Rattle.std.proofs.Common.{◌≡◌, ℕ, suc, ◌+◌, ◌-◌, ◌<◌, ◌≤◌, List, [], ◌∷◌, ◌++◌, length, get_or, take, drop, slice_range, true, false, not, Result, Ok, Err, refl, sym, ap, ◌∙◌, subst, arith, append_assoc}
use Rattle.std.proofs.lemmas.Bool.{and_parts, cond-true}
use Rattle.std.proofs.lemmas.Bool.Decides.{nat_tests}
use Rattle.std.proofs.lemmas.List.{drop-drop, length-drop, get_or-drop, drop_more, drop_all, append-nil, take-append-le, length-take}
use Rattle.std.specs.List.{list_all, before_first, after_first, position_or_len}
use Rattle.sam_base.specs.declared.faults.TnsKind.{TnsKind}
use Rattle.sam_text.specs.Bytes.{is_digit, is_blank, is_newline, is_gap}
use Rattle.sam_text.specs.Lines.{lines}
use Rattle.sam_text.specs.Numbers.{is_decimal, decimal}
use Rattle.sam_text.specs.Words.{words}
use Rattle.sam_text.proofs.LineWords.{line-word, line-word-after, line-blank, line-blank-after, line-end, line-end-after}
use Rattle.sam_text.proofs.PlaceLemmas.{lines_by}
use Rattle.tns_io.specs.Answers.{coordinates_then}
use Rattle.tns_io.specs.Fields.{Entry, with_coordinate, with_value, fields_of}
use Rattle.tns_io.specs.Values.{number_coordinate, word_coordinate, signed_value, word_value}
use Rattle.tns_io.proofs.ValueLemmas.{decimal-value, minus-value}

-- ---- a word and what stands behind it

digit-no-gap : (b : ℕ) → is_digit b ≡ true → not (is_gap b) ≡ true
digit-no-gap b h = grind (arith, nat_tests)

pub digits-no-gap : (ds : List ℕ) → list_all is_digit ds ≡ true → list_all (λ b. not (is_gap b)) ds ≡ true
digits-no-gap [] h = refl
digits-no-gap (d ∷ ds) h =
    let parts : (is_digit d ≡ true) × (list_all is_digit ds ≡ true) = and_parts _ _ h in
    rw (digit-no-gap d parts.0) (digits-no-gap ds parts.1)

blank-gap : (b : ℕ) → is_blank b ≡ true → is_gap b ≡ true
blank-gap b h = grind (arith, nat_tests)

newline-gap : (b : ℕ) → is_newline b ≡ true → is_gap b ≡ true
newline-gap b h = grind (arith, nat_tests)

module _ (text : List ℕ) (at end : ℕ) (some : at < end) (within : end < length text) (word : list_all (λ b. not (is_gap b)) (slice_range text at end) ≡ true) where
  far : at + (end - at) ≡ end
  far = omega (arith, some)

  here : drop (end - at) (drop at text) ≡ drop end text
  here = drop-drop (end - at) at text ∙ ap (λ k. drop k text) far

  there : get_or (drop at text) (end - at) 0 ≡ get_or text end 0
  there = get_or-drop at text (end - at) 0 ∙ ap (λ k. get_or text k 0) far

  long : end - at < length (drop at text)
  long = omega (arith, some, within, length-drop at text)

  pub word-here : is_gap (get_or text end 0) ≡ true → words (before_first is_newline (drop at text)) ≡ slice_range text at end ∷ words (before_first is_newline (drop end text))
  word-here gap =
      line-word (end - at) (drop at text) (omega (arith, some)) long word (ap is_gap there ∙ gap)
      ∙ ap (λ rest. slice_range text at end ∷ words (before_first is_newline rest)) here

  pub word-after : after_first is_newline (drop at text) ≡ after_first is_newline (drop end text)
  word-after = line-word-after (end - at) (drop at text) (omega (arith, long)) word ∙ ap (λ rest. after_first is_newline rest) here

module _ (text : List ℕ) (end : ℕ) (within : end < length text) where
  some-left : 0 < length (drop end text)
  some-left = omega (arith, within, length-drop end text)

  first-left : get_or (drop end text) 0 0 ≡ get_or text end 0
  first-left = get_or-drop end text 0 0 ∙ ap (λ k. get_or text k 0) (plus end)
    where
      plus : (n : ℕ) → n + 0 ≡ n
      plus n = omega arith

  one-left : drop 1 (drop end text) ≡ drop (end + 1) text
  one-left = drop-drop 1 end text

  pub blank-here : is_blank (get_or text end 0) ≡ true → words (before_first is_newline (drop end text)) ≡ words (before_first is_newline (drop (end + 1) text))
  blank-here blank = line-blank (drop end text) some-left (ap is_blank first-left ∙ blank) ∙ ap (λ rest. words (before_first is_newline rest)) one-left

  pub blank-after : is_blank (get_or text end 0) ≡ true → after_first is_newline (drop end text) ≡ after_first is_newline (drop (end + 1) text)
  blank-after blank = line-blank-after (drop end text) some-left (ap is_blank first-left ∙ blank) ∙ ap (λ rest. after_first is_newline rest) one-left

  pub end-here : is_newline (get_or text end 0) ≡ true → words (before_first is_newline (drop end text)) ≡ []
  end-here new = line-end (drop end text) some-left (ap is_newline first-left ∙ new)

  pub end-after : is_newline (get_or text end 0) ≡ true → after_first is_newline (drop end text) ≡ drop (end + 1) text
  end-after new = line-end-after (drop end text) some-left (ap is_newline first-left ∙ new) ∙ one-left

-- a coordinate with a blank behind it
pub record FieldRead (text word : List ℕ) (at next : ℕ) : Type 0 where
  pub words : words (before_first is_newline (drop at text)) ≡ word ∷ words (before_first is_newline (drop next text))
  pub after : after_first is_newline (drop at text) ≡ after_first is_newline (drop next text)

pub field-read : (text : List ℕ) (at end : ℕ) → at < end → end < length text → list_all is_digit (slice_range text at end) ≡ true → is_blank (get_or text end 0) ≡ true → FieldRead text (slice_range text at end) at (end + 1)
field-read text at end some within digits blank =
    let word = digits-no-gap (slice_range text at end) digits in
    record {
      words = word-here text at end some within word (blank-gap (get_or text end 0) blank) ∙ ap (λ ws. slice_range text at end ∷ ws) (blank-here text end within blank);
      after = word-after text at end some within word ∙ blank-after text end within blank;
    }

-- the value with a newline behind it
pub record LastRead (text word : List ℕ) (at next : ℕ) : Type 0 where
  pub words : words (before_first is_newline (drop at text)) ≡ word ∷ []
  pub after : after_first is_newline (drop at text) ≡ drop next text

pub last-read : (text : List ℕ) (at end : ℕ) → at < end → end < length text → list_all (λ b. not (is_gap b)) (slice_range text at end) ≡ true → get_or text end 0 ≡ 10 → LastRead text (slice_range text at end) at (end + 1)
last-read text at end some within word new =
    let newline : is_newline (get_or text end 0) ≡ true = ap is_newline new in
    record {
      words = word-here text at end some within word (newline-gap (get_or text end 0) newline) ∙ ap (λ ws. slice_range text at end ∷ ws) (end-here text end within newline);
      after = word-after text at end some within word ∙ end-after text end within newline;
    }

-- the line and those behind it
pub line-there : (text : List ℕ) (from next : ℕ) → from < length text → after_first is_newline (drop from text) ≡ drop next text
    → lines (drop from text) ≡ before_first is_newline (drop from text) ∷ lines (drop next text)
line-there text from next h e =
    lines_by (drop from text) (omega (arith, h, length-drop from text))
    ∙ ap (λ k. before_first is_newline (drop from text) ∷ lines (drop k (drop from text))) (one (position_or_len is_newline (drop from text)))
    ∙ ap (λ rest. before_first is_newline (drop from text) ∷ lines rest) e
  where
    one : (n : ℕ) → suc n ≡ n + 1
    one n = omega arith

-- ---- fields

then-coordinate : (coords : List ℕ) (c : ℕ) (r : Result Entry TnsKind) → coordinates_then coords (with_coordinate (Ok c) r) ≡ coordinates_then (coords ++ c ∷ []) r
then-coordinate coords c (Ok e) = ap (λ (cs : List ℕ). Ok (cs, e.1)) (sym (append_assoc coords (c ∷ []) e.0))
then-coordinate coords c (Err kind) = refl

pub digits-decimal : (ds : List ℕ) → 0 < length ds → list_all is_digit ds ≡ true → is_decimal ds ≡ true
digits-decimal [] h e = absurd (omega (arith, h))
digits-decimal (d ∷ ds) h e = e

-- one coordinate more
pub coordinate-read : (coords sizes : List ℕ) (i size number c : ℕ) (word : List ℕ) (more : List (List ℕ)) → i < length sizes → get_or sizes i 0 ≡ size → 0 < length word → list_all is_digit word ≡ true
    → number ≡ decimal word → number_coordinate size number ≡ Ok c
    → coordinates_then (coords ++ c ∷ []) (fields_of (drop (i + 1) sizes) more) ≡ coordinates_then coords (fields_of (drop i sizes) (word ∷ more))
coordinate-read coords sizes i size number c word more h s some digits n e =
    let is : word_coordinate size word ≡ Ok c = cond-true (is_decimal word) _ _ (digits-decimal word some digits) ∙ ap (number_coordinate size) (sym n) ∙ e in
    sym (ap (λ rest. coordinates_then coords (fields_of rest (word ∷ more))) (drop_more sizes i 0 h)
    ∙ ap (λ k. coordinates_then coords (with_coordinate (word_coordinate k word) (fields_of (drop (i + 1) sizes) more))) s
    ∙ ap (λ r. coordinates_then coords (with_coordinate r (fields_of (drop (i + 1) sizes) more))) is
    ∙ then-coordinate coords c (fields_of (drop (i + 1) sizes) more))

then-none : (coords : List ℕ) (v : ℕ) (r : Result ℕ TnsKind) → r ≡ Ok v → coordinates_then coords (with_value r) ≡ Ok (coords, v)
then-none coords v (Ok w) e = nothing coords w v (cc)
  where
    nothing : (coords : List ℕ) (w v : ℕ) → w ≡ v → ◌≡◌ {A = Result Entry TnsKind} (Ok (coords ++ [], w)) (Ok (coords, v))
    nothing coords w v e = rw e (ap (λ (cs : List ℕ). Ok (cs, v)) (append-nil coords))
then-none coords v (Err kind) e = absurd (cc)

-- the value
pub value-read : (coords sizes : List ℕ) (i v : ℕ) (word : List ℕ) (line : List (List ℕ)) → length sizes ≤ i → line ≡ word ∷ [] → word_value word ≡ Ok v → coordinates_then coords (fields_of (drop i sizes) line) ≡ Ok (coords, v)
value-read coords sizes i v word line h is e =
    ap (λ rest. coordinates_then coords (fields_of rest line)) (drop_all i sizes h) ∙ ap (λ ws. coordinates_then coords (fields_of [] ws)) is ∙ then-none coords v (word_value word) e

-- ---- a value behind at most a minus

pub minus-slice : (text : List ℕ) (from end : ℕ) → from < end → end ≤ length text → slice_range text from end ≡ get_or text from 0 ∷ slice_range text (from + 1) end
minus-slice text from end h k =
    ap (λ bs. take (end - from) bs) (drop_more text from 0 (omega (arith, h, k))) ∙ ap (λ n. take n (get_or text from 0 ∷ drop (from + 1) text)) (one from end h)
  where
    one : (a b : ℕ) → a < b → b - a ≡ suc (b - (a + 1))
    one a b h = omega (arith, h)

-- a value that reads as v, of bytes that are no gaps
pub record PlainValue (bytes : List ℕ) (v : ℕ) : Type 0 where
  pub value : word_value bytes ≡ Ok v
  pub word : list_all (λ b. not (is_gap b)) bytes ≡ true

pub value-alone : (word : List ℕ) (number v : ℕ) → 0 < length word → list_all is_digit word ≡ true → number ≡ decimal word → signed_value false number ≡ Ok v → PlainValue word v
value-alone word number v some digits n e = record {
  value = decimal-value word number (digits-decimal word some digits) (sym n) ∙ e;
  word = digits-no-gap word digits;
}

pub value-minus : (text : List ℕ) (from end number v : ℕ) → get_or text from 0 ≡ 45 → from + 1 < end → end ≤ length text → list_all is_digit (slice_range text (from + 1) end) ≡ true → 0 < length (slice_range text (from + 1) end)
    → number ≡ decimal (slice_range text (from + 1) end) → signed_value true number ≡ Ok v → PlainValue (slice_range text from end) v
value-minus text from end number v minus h k digits some n e =
    let ds = slice_range text (from + 1) end in
    let is : slice_range text from end ≡ 45 ∷ ds = minus-slice text from end (omega (arith, h)) k ∙ ap (λ b. b ∷ ds) minus in
    subst (λ (word : List ℕ). PlainValue word v) (sym is) (record {
      value = minus-value ds number (digits-decimal ds some digits) (sym n) ∙ e;
      word = digits-no-gap ds digits;
    })

pub length-slice : (text : List ℕ) (from end : ℕ) → from < end → end ≤ length text → 0 < length (slice_range text from end)
length-slice text from end h k = omega (arith, length-take (end - from) (drop from text), length-drop from text, h, k)

pub kept-more : (ys xs : List ℕ) (c : ℕ) → take (length ys) xs ≡ ys → take (length ys) (xs ++ c ∷ []) ≡ ys
kept-more ys xs c e = take-append-le (length ys) xs (c ∷ []) (omega (arith, ap length e, length-take (length ys) xs)) ∙ e
