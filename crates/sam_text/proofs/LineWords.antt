-- The words of a line, where the line is read from the front and its end isn't looked for first.
use Rattle.std.proofs.Common.{◌≡◌, ℕ, zero, suc, ◌+◌, ◌<◌, ◌≤◌, List, [], ◌∷◌, length, get_or, take, drop, min, true, not, refl, sym, ap, ◌∙◌, subst, arith, filter}
use Rattle.std.proofs.Math.Numerals.{one-add}
use Rattle.std.proofs.lemmas.Bool.{and_parts}
use Rattle.std.proofs.lemmas.Bool.Decides.{nat_tests}
use Rattle.std.proofs.lemmas.List.{take-take, drop-take, drop-drop, length-take, get_or-take}
use Rattle.std.proofs.lemmas.List.Splits.{slice_split-cons_yes}
use Rattle.std.specs.List.{list_all, position_or_len, before_first, after_first}
use Rattle.sam_text.specs.Bytes.{is_blank, is_newline, is_gap}
use Rattle.sam_text.specs.Words.{has_bytes, words}
use Rattle.sam_text.proofs.PlaceLemmas.{word-first}

no-newline : (b : ℕ) → not (is_gap b) ≡ true → not (is_newline b) ≡ true
no-newline b h = grind (arith, nat_tests)

blank-gap : (b : ℕ) → is_blank b ≡ true → is_gap b ≡ true
blank-gap b h = grind (arith, nat_tests)

blank-no-newline : (b : ℕ) → is_blank b ≡ true → not (is_newline b) ≡ true
blank-no-newline b h = grind (arith, nat_tests)

-- a line goes on over bytes that are no gaps
line-on : (n : ℕ) (bs : List ℕ) → n ≤ length bs → list_all (λ b. not (is_gap b)) (take n bs) ≡ true → position_or_len is_newline bs ≡ n + position_or_len is_newline (drop n bs)
line-on zero bs h all = omega arith
line-on (suc n) [] h all = absurd (omega arith)
line-on (suc n) (b ∷ bs) h all =
    let parts : (not (is_gap b) ≡ true) × (list_all (λ b. not (is_gap b)) (take n bs) ≡ true) = and_parts _ _ all in
    rw (no-newline b parts.0, line-on n bs (omega arith) parts.1) (omega arith)

-- bytes that are no gaps, up to one, are the first word of the line
pub line-word : (n : ℕ) (bs : List ℕ) → 0 < n → n < length bs → list_all (λ b. not (is_gap b)) (take n bs) ≡ true → is_gap (get_or bs n 0) ≡ true
    → words (before_first is_newline bs) ≡ take n bs ∷ words (before_first is_newline (drop n bs))
line-word n bs some h all gap =
    let rest = position_or_len is_newline (drop n bs) in
    let line = take (n + rest) bs in
    let end : position_or_len is_newline bs ≡ n + rest = line-on n bs (omega arith) all in
    let front : take n line ≡ take n bs = take-take n (n + rest) bs (omega arith) in
    let long : length line ≡ min (n + rest) (length bs) = length-take (n + rest) bs in
    let first = word-first n line some (omega (arith, long)) (subst (λ (xs : List ℕ). list_all (λ b. not (is_gap b)) xs ≡ true) (sym front) all)
    (λ l. ap is_gap (get_or-take (n + rest) bs n 0 (omega (arith, long, l))) ∙ gap) in
    ap (λ k. words (take k bs)) end ∙ first ∙ ap (λ xs. xs ∷ words (drop n line)) front ∙ ap (λ xs. take n bs ∷ words xs) (drop-take n rest bs)

-- and the lines behind it are the same
pub line-word-after : (n : ℕ) (bs : List ℕ) → n ≤ length bs → list_all (λ b. not (is_gap b)) (take n bs) ≡ true → after_first is_newline bs ≡ after_first is_newline (drop n bs)
line-word-after n bs h all =
    let rest = position_or_len is_newline (drop n bs) in
    ap (λ k. drop k bs) (ap (λ k. k + 1) (line-on n bs h all) ∙ next n rest) ∙ sym (drop-drop (rest + 1) n bs)
  where
    next : (a b : ℕ) → a + b + 1 ≡ a + (b + 1)
    next a b = omega arith

-- a blank in front doesn't count
pub line-blank : (bs : List ℕ) → 0 < length bs → is_blank (get_or bs 0 0) ≡ true → words (before_first is_newline bs) ≡ words (before_first is_newline (drop 1 bs))
line-blank [] h blank = absurd (omega arith)
line-blank (b ∷ bs) h blank =
    rw (blank-no-newline b blank, one-add) (ap (λ parts. filter has_bytes parts) (slice_split-cons_yes is_gap b (before_first is_newline bs) (blank-gap b blank)))

pub line-blank-after : (bs : List ℕ) → 0 < length bs → is_blank (get_or bs 0 0) ≡ true → after_first is_newline bs ≡ after_first is_newline (drop 1 bs)
line-blank-after [] h blank = absurd (omega arith)
line-blank-after (b ∷ bs) h blank =
    rw (blank-no-newline b blank) (ap (λ k. drop k (b ∷ bs)) (next (position_or_len is_newline bs)))
  where
    next : (a : ℕ) → 1 + a + 1 ≡ suc (a + 1)
    next a = omega arith

-- a newline ends the line
pub line-end : (bs : List ℕ) → 0 < length bs → is_newline (get_or bs 0 0) ≡ true → words (before_first is_newline bs) ≡ []
line-end [] h new = absurd (omega arith)
line-end (b ∷ bs) h new = rw new refl

pub line-end-after : (bs : List ℕ) → 0 < length bs → is_newline (get_or bs 0 0) ≡ true → after_first is_newline bs ≡ drop 1 bs
line-end-after [] h new = absurd (omega arith)
line-end-after (b ∷ bs) h new = rw new refl
