-- Lines and words, by the places where they begin and end.
use Rattle.std.proofs.Common.{◌≡◌, ℕ, zero, suc, ◌+◌, ◌<◌, ◌≤◌, List, [], ◌∷◌, length, get_or, take, drop, slice_range, ◌-◌, Bool, true, false, not, cond, refl, subst, sym, ap, ◌∙◌, arith, filter}
use Rattle.std.proofs.Math.Numerals.{one-add}
use Rattle.std.proofs.Math.Seq.{drop-length}
use Rattle.std.proofs.lemmas.List.{take-take, drop-drop, length-take, length-drop, drop_all}
use Rattle.std.proofs.lemmas.Bool.{and_parts}
use Rattle.std.proofs.lemmas.Bool.Decides.{nat_tests}
use Rattle.std.proofs.lemmas.List.Sums.{prefix_len-le-length}
use Rattle.std.proofs.lemmas.Slice.{between_is}
use Rattle.std.proofs.lemmas.List.Splits.{slice_split-cons_yes, slice_split-cons_no}
use Rattle.std.specs.List.{list_all, prefix_len, position_or_len, onto_first, slice_split}
use Rattle.sam_text.specs.Bytes.{is_digit, is_newline, is_gap}
use Rattle.sam_text.specs.Lines.{lines}
use Rattle.sam_text.specs.Words.{has_bytes, words, behind_gaps, begins_comment, is_skipped}

-- a line, by the number of bytes before its newline
lines-step : (t : Bool) (b : ℕ) (bs : List ℕ) (n : ℕ) → (0 < length bs → lines bs ≡ take n bs ∷ lines (drop (suc n) bs)) → (length bs ≡ 0 → n ≡ 0)
    → cond t ([] ∷ lines bs) (onto_first b (lines bs)) ≡ take (cond (not t) (1 + n) 0) (b ∷ bs) ∷ lines (drop (suc (cond (not t) (1 + n) 0)) (b ∷ bs))
lines-step true b bs n h e = refl
lines-step false b [] n h e = rw (one-add, e refl) refl
lines-step false b (c ∷ cs) n h e = rw one-add (ap (λ ls. onto_first b ls) (h (omega arith)))

none_in : (bs : List ℕ) → length bs ≡ 0 → position_or_len is_newline bs ≡ 0
none_in [] e = refl
none_in (b ∷ bs) e = absurd (omega (arith, e))

pub lines_by : (bs : List ℕ) → 0 < length bs → lines bs ≡ take (position_or_len is_newline bs) bs ∷ lines (drop (suc (position_or_len is_newline bs)) bs)
lines_by [] h = absurd (omega (arith, h))
lines_by (b ∷ bs) h = lines-step (is_newline b) b bs (position_or_len is_newline bs) (lines_by bs) (none_in bs)

-- gaps in front don't count
words-skip : (t : Bool) (b : ℕ) (bs : List ℕ) (n : ℕ) → is_gap b ≡ t → words bs ≡ words (drop n bs) → words (b ∷ bs) ≡ words (drop (cond t (1 + n) 0) (b ∷ bs))
words-skip true b bs n e h = rw one-add (ap (λ parts. filter has_bytes parts) (slice_split-cons_yes is_gap b bs e) ∙ h)
words-skip false b bs n e h = refl

pub words_past_gaps : (bs : List ℕ) → words bs ≡ words (drop (prefix_len is_gap bs) bs)
words_past_gaps [] = refl
words_past_gaps (b ∷ bs) = words-skip (is_gap b) b bs (prefix_len is_gap bs) refl (words_past_gaps bs)

words_of_gaps : (bs : List ℕ) → prefix_len is_gap bs ≡ length bs → words bs ≡ []
words_of_gaps bs e = words_past_gaps bs ∙ rw e (ap words (drop-length bs))

-- the parts, split into the first and the others
record Front (bs : List ℕ) (n : ℕ) : Type 0 where
  rest : List (List ℕ)
  parts : slice_split is_gap bs ≡ take n bs ∷ rest
  others : filter has_bytes rest ≡ words (drop n bs)

front-step : (t : Bool) (b : ℕ) (bs : List ℕ) (n : ℕ) → is_gap b ≡ t → Front bs n → Front (b ∷ bs) (cond (not t) (1 + n) 0)
front-step true b bs n e h = record {
  rest = slice_split is_gap bs;
  parts = slice_split-cons_yes is_gap b bs e;
  others = sym (ap (λ parts. filter has_bytes parts) (slice_split-cons_yes is_gap b bs e));
}
front-step false b bs n e h = record {
  rest = h.rest;
  parts = slice_split-cons_no is_gap b bs e ∙ ap (λ parts. onto_first b parts) h.parts ∙ ap (λ k. take k (b ∷ bs) ∷ h.rest) (sym (one-add n));
  others = h.others ∙ ap (λ k. words (drop k (b ∷ bs))) (sym (one-add n));
}

front : (bs : List ℕ) → Front bs (position_or_len is_gap bs)
front [] = record { rest = []; parts = refl; others = refl }
front (b ∷ bs) = front-step (is_gap b) b bs (position_or_len is_gap bs) refl (front bs)

kept-first : (n : ℕ) (bs : List ℕ) (rest : List (List ℕ)) → 0 < n → 0 < length bs → filter has_bytes (take n bs ∷ rest) ≡ take n bs ∷ filter has_bytes rest
kept-first zero bs rest h k = absurd (omega (arith, h))
kept-first (suc n) [] rest h k = absurd (omega (arith, k))
kept-first (suc n) (b ∷ bs) rest h k = refl

-- the first word, where the first byte is no gap
pub words_by : (bs : List ℕ) → 0 < position_or_len is_gap bs → 0 < length bs → words bs ≡ take (position_or_len is_gap bs) bs ∷ words (drop (position_or_len is_gap bs) bs)
words_by bs h k =
    let f = front bs in
    ap (λ parts. filter has_bytes parts) f.parts ∙ kept-first (position_or_len is_gap bs) bs f.rest h k ∙ ap (λ ws. take (position_or_len is_gap bs) bs ∷ ws) f.others

-- behind the gaps in front a word begins
word-begins : (t : Bool) (b : ℕ) (bs : List ℕ) (n : ℕ) → is_gap b ≡ t → (n < length bs → 0 < position_or_len is_gap (drop n bs)) → cond t (1 + n) 0 < length (b ∷ bs) → 0 < position_or_len is_gap (drop (cond t (1 + n) 0) (b ∷ bs))
word-begins true b bs n e h k = rw one-add (h (omega arith))
word-begins false b bs n e h k = rw e (omega arith)

pub word_begins : (bs : List ℕ) → prefix_len is_gap bs < length bs → 0 < position_or_len is_gap (drop (prefix_len is_gap bs) bs)
word_begins [] k = absurd (omega (arith, k))
word_begins (b ∷ bs) k = word-begins (is_gap b) b bs (prefix_len is_gap bs) refl (word_begins bs) k

pub record FirstWord (text : List ℕ) (from to begin end : ℕ) : Type 0 where
  pub words : words (slice_range text from to) ≡ slice_range text begin end ∷ words (slice_range text end to)
  pub some : begin < end
  pub within : end ≤ to

sub-from : (a b : ℕ) → b ≡ a + b - a
sub-from a b = omega arith

next-place : (a b : ℕ) → a + suc b ≡ a + b + 1
next-place a b = omega arith

-- a part of a part
part : (text : List ℕ) (from to n : ℕ) → slice_range text (from + n) to ≡ drop n (slice_range text from to)
part text from to n = between_is text (from + n) to ∙ sym (drop-drop n from (take to text)) ∙ ap (λ bs. drop n bs) (sym (between_is text from to))

cut : (text : List ℕ) (from to n : ℕ) → n ≤ to - from → take n (slice_range text from to) ≡ slice_range text from (from + n)
cut text from to n h = take-take n (to - from) (drop from text) h ∙ ap (λ k. take k (drop from text)) (sub-from from n)

length-part : (text : List ℕ) (from to : ℕ) → from ≤ to → to ≤ length text → length (slice_range text from to) ≡ to - from
length-part text from to h k = simp (length-take, length-drop) (omega arith)

pub word_there : (text : List ℕ) (from to gaps count : ℕ) → from ≤ to → to ≤ length text → gaps ≡ prefix_len is_gap (slice_range text from to) → gaps < to - from → count ≡ position_or_len is_gap (slice_range text (from + gaps) to)
    → FirstWord text from to (from + gaps) (from + gaps + count)
word_there text from to gaps count h k g less n =
    let whole = slice_range text from to in
    let rest = slice_range text (from + gaps) to in
    let is : rest ≡ drop gaps whole = part text from to gaps in
    let whole-length : length whole ≡ to - from = length-part text from to h k in
    let rest-length : length rest ≡ to - (from + gaps) = length-part text (from + gaps) to (omega arith) k in
    let begins : 0 < count = rw (n, is, g) (word_begins whole (rw (← g) (omega arith))) in
    let most : count ≤ length rest = rw n (prefix_len-le-length (λ b. not (is_gap b)) rest) in
    let past : words whole ≡ words rest = words_past_gaps whole ∙ rw (← g) (ap words (sym is)) in
    record {
      words = past ∙ words_by rest (rw (← n) begins) (omega arith) ∙ rw (← n) (ap (λ w. w ∷ words (drop count rest)) (cut text (from + gaps) to count (omega arith)) ∙ ap (λ bs. slice_range text (from + gaps) (from + gaps + count) ∷ words bs) (sym (part text (from + gaps) to count)));
      some = omega arith;
      within = omega arith;
    }

pub line_in_text : (text : List ℕ) (from count : ℕ) → from ≤ length text → count ≡ position_or_len is_newline (drop from text) → from + count ≤ length text
line_in_text text from count h e =
    let most = prefix_len-le-length (λ b. not (is_newline b)) (drop from text) in
    let rest = length-drop from text in
    omega (arith, e)

pub line_there : (text : List ℕ) (from count : ℕ) → from ≤ length text → count ≡ position_or_len is_newline (drop from text) → from < length text
    → lines (drop from text) ≡ slice_range text from (from + count) ∷ lines (drop (from + count + 1) text)
line_there text from count h e less =
    let rest = length-drop from text in
    lines_by (drop from text) (omega arith) ∙ rw (← e) (ap (λ k. take k (drop from text) ∷ lines (drop (suc count) (drop from text))) (sub-from from count)
    ∙ ap (λ bs. slice_range text from (from + count) ∷ lines bs) (drop-drop (suc count) from text ∙ ap (λ k. drop k text) (next-place from count)))

pub line_there_last : (text : List ℕ) (from count : ℕ) → from ≤ length text → count ≡ position_or_len is_newline (drop from text) → from < length text → length text ≤ from + count
    → lines (drop from text) ≡ slice_range text from (from + count) ∷ lines (drop (from + count) text)
line_there_last text from count h e less last =
    line_there text from count h e less ∙ ap (λ bs. slice_range text from (from + count) ∷ lines bs) (drop_all (from + count + 1) text (omega arith) ∙ sym (drop_all (from + count) text last))

pub gaps_within : (text : List ℕ) (from to gaps : ℕ) → from ≤ to → to ≤ length text → gaps ≡ prefix_len is_gap (slice_range text from to) → from + gaps ≤ to
gaps_within text from to gaps h k e =
    let most = prefix_len-le-length is_gap (slice_range text from to) in
    let whole = length-part text from to h k in
    omega (arith, e)

pub no_word : (text : List ℕ) (from to gaps : ℕ) → from ≤ to → to ≤ length text → gaps ≡ prefix_len is_gap (slice_range text from to) → from + gaps ≡ to → words (slice_range text from to) ≡ []
no_word text from to gaps h k e last =
    let whole = length-part text from to h k in
    words_of_gaps (slice_range text from to) (omega (arith, e))

-- ---- a word of digits

digit-no-gap : (b : ℕ) → is_digit b ≡ true → is_gap b ≡ false
digit-no-gap b h = grind (arith, nat_tests)

no-gap-more : (n : ℕ) (bs : List ℕ) → list_all is_digit (take n bs) ≡ true → list_all (λ b. not (is_gap b)) (take n bs) ≡ true
no-gap-more zero bs all = refl
no-gap-more (suc n) [] all = refl
no-gap-more (suc n) (b ∷ bs) all =
    let parts : (is_digit b ≡ true) × (list_all is_digit (take n bs) ≡ true) = and_parts _ _ all in
    rw (digit-no-gap b parts.0) (no-gap-more n bs parts.1)

-- bytes up to a gap, or up to the end, are the first word
word-end : (n : ℕ) (bs : List ℕ) → n ≤ length bs → list_all (λ b. not (is_gap b)) (take n bs) ≡ true → (n < length bs → is_gap (get_or bs n 0) ≡ true) → position_or_len is_gap bs ≡ n
word-end zero [] h all ends = refl
word-end zero (b ∷ bs) h all ends = rw (ends (omega arith)) refl
word-end (suc n) [] h all ends = absurd (omega arith)
word-end (suc n) (b ∷ bs) h all ends =
    let parts : (not (is_gap b) ≡ true) × (list_all (λ b. not (is_gap b)) (take n bs) ≡ true) = and_parts _ _ all in
    let rest : position_or_len is_gap bs ≡ n = word-end n bs (omega arith) parts.1 (λ l. ends (omega arith)) in
    rw (parts.0, rest) (omega arith)

pub word-first : (n : ℕ) (bs : List ℕ) → 0 < n → n ≤ length bs → list_all (λ b. not (is_gap b)) (take n bs) ≡ true → (n < length bs → is_gap (get_or bs n 0) ≡ true)
    → words bs ≡ take n bs ∷ words (drop n bs)
word-first n bs some h all ends =
    let e = word-end n bs h all ends in
    let w = words_by bs (omega arith) (omega arith) in
    w ∙ ap (λ k. take k bs ∷ words (drop k bs)) e

pub digits-first : (n : ℕ) (bs : List ℕ) → 0 < n → n ≤ length bs → list_all is_digit (take n bs) ≡ true → (n < length bs → is_gap (get_or bs n 0) ≡ true)
    → words bs ≡ take n bs ∷ words (drop n bs)
digits-first n bs some h all ends = word-first n bs some h (no-gap-more n bs all) ends

-- ---- a line that is skipped

front-begins : (n : ℕ) (b : ℕ) (bs : List ℕ) (more : List (List ℕ)) → 0 < n → is_skipped (take n (b ∷ bs) ∷ more) ≡ begins_comment (b ∷ bs)
front-begins zero b bs more h = absurd (omega arith)
front-begins (suc n) b bs more h = refl

gaps-short : (line : List ℕ) (b : ℕ) (bs : List ℕ) → behind_gaps line ≡ b ∷ bs → prefix_len is_gap line < length line
gaps-short line b bs e =
    let long = ap length e in
    let some : 0 < length (drop (prefix_len is_gap line) line) = omega arith in
    omega (arith, some, length-drop (prefix_len is_gap line) line)

-- what stands behind the gaps tells whether a line is skipped
pub skipped-none : (line rest : List ℕ) → rest ≡ behind_gaps line → length rest ≡ 0 → is_skipped (words line) ≡ true
skipped-none line [] e h = ap is_skipped (words_past_gaps line ∙ ap words (sym e))
skipped-none line (b ∷ bs) e h = absurd (omega arith)

pub skipped-some : (line rest : List ℕ) → rest ≡ behind_gaps line → (length rest ≡ 0 → ⊥) → is_skipped (words line) ≡ begins_comment rest
skipped-some line [] e h = absurd (h refl)
skipped-some line (b ∷ bs) e h =
    let some : 0 < position_or_len is_gap (b ∷ bs) = subst (λ (rest : List ℕ). 0 < position_or_len is_gap rest) (sym e) (word_begins line (gaps-short line b bs (sym e))) in
    ap is_skipped (words_past_gaps line ∙ ap words (sym e) ∙ words_by (b ∷ bs) some (omega arith))
    ∙ front-begins (position_or_len is_gap (b ∷ bs)) b bs (words (drop (position_or_len is_gap (b ∷ bs)) (b ∷ bs))) some
