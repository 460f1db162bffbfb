-- The words of a label's text, and the arguments among them.
use Rattle.std.proofs.Common.{◌≡◌, ◌∙◌, ◌≤◌, ◌<◌, ◌+◌, ◌-◌, ◌*◌, ◌/◌, ◌%◌, ◌^◌, ◌++◌, ◌&&◌, ◌==◌, ℕ, Bool, true, false, refl, ap, ap₂, arith, List, [], ◌∷◌, decimal, map, filter, append-nil, append_assoc}
use Rattle.std.specs.Prelude.{codes, not, Some}
use Rattle.std.specs.List.{list_all, slice_split, All}
use Rattle.std.specs.Str.{bytes_eq}
use Rattle.std.proofs.lemmas.Fmt.{decimal_by_steps}
use Rattle.std.proofs.lemmas.Bool.{and_parts}
use Rattle.std.proofs.lemmas.Bool.Decides.{Decides-ltb}
use Rattle.std.proofs.lemmas.List.Splits.{slice_split_at, slice_split_none}
use Rattle.std.proofs.lemmas.List.Sums.{fold-append}
use Rattle.std.proofs.lemmas.List.Folds.{list_all-append}
use Rattle.std.proofs.lemmas.List.Elements.{All-nil, All-cons, All-head, All-tail}
use Rattle.std.proofs.lemmas.Grind.{common_steps}
use Rattle.sam_text.specs.Bytes.{is_digit, is_gap}
use Rattle.sam_text.specs.Words.{has_bytes, words}
use Rattle.sam_text.specs.Numbers.{decimal as spelled}
use Rattle.stream_model.specs.Texts.{spaced}
use Rattle.label_reading.specs.Words.{argument_in, with_argument, arguments_in}

-- ---- decimals

record Spells (n : ℕ) (ds : List ℕ) : Type 0 where
  some : has_bytes ds ≡ true
  digits : list_all is_digit ds ≡ true
  value : spelled ds ≡ n

digit : (d : ℕ) → d < 10 → is_digit (48 + d) ≡ true
digit d h = grind (arith, common_steps)

spells_one : (n : ℕ) → n < 10 → Spells n ((48 + n) ∷ [])
spells_one n h = record { some = refl; digits = ap (λ b. b && true) (digit n h); value = omega arith }

some_more : (ds more : List ℕ) → has_bytes ds ≡ true → has_bytes (ds ++ more) ≡ true
some_more [] more h = cc
some_more (d ∷ ds) more h = refl

spells_more : (n : ℕ) (ds : List ℕ) → 10 ≤ n → Spells (n / 10) ds → Spells n (ds ++ (48 + n % 10) ∷ [])
spells_more n ds big so_far = record {
  some = some_more ds ((48 + n % 10) ∷ []) so_far.some;
  digits = list_all-append is_digit ds ((48 + n % 10) ∷ []) ∙ ap₂ (λ a b. a && (b && true)) so_far.digits (digit (n % 10) (omega arith));
  value = fold-append (λ n b. n * 10 + (b - 48)) 0 ds ((48 + n % 10) ∷ []) ∙ ap (λ v. v * 10 + (48 + n % 10 - 48)) so_far.value ∙ (omega arith);
}

spells : (n : ℕ) → n < 2 ^ 64 → Spells n (decimal n)
spells n h = decimal_by_steps Spells spells_one spells_more n h

-- ---- words

abbrev no_gap : ℕ → Type 0
no_gap b = is_gap b ≡ false

pub record IsWord (w : List ℕ) : Type 0 where
  pub some : has_bytes w ≡ true
  pub plain : All (λ b. is_gap b ≡ false) w

none_of : (bs : List ℕ) → list_all (λ b. not (is_gap b)) bs ≡ true → All no_gap bs
none_of [] h = All-nil no_gap
none_of (b ∷ bs) h =
    let p = and_parts (not (is_gap b)) (list_all (λ c. not (is_gap c)) bs) h in All-cons no_gap b bs (off (is_gap b) p.0) (none_of bs p.1)
  where
    off : (b : Bool) → not b ≡ true → b ≡ false
    off true h = cc
    off false h = refl

pub word_by_test : (w : List ℕ) → has_bytes w ≡ true → list_all (λ b. not (is_gap b)) w ≡ true → IsWord w
word_by_test w some plain = record { some = some; plain = none_of w plain }

digit_apart : (b : ℕ) → is_digit b ≡ true → is_gap b ≡ false
digit_apart b h = grind (arith, common_steps)

digits_plain : (ds : List ℕ) → list_all is_digit ds ≡ true → All no_gap ds
digits_plain [] h = All-nil no_gap
digits_plain (d ∷ ds) h =
    let p = and_parts (is_digit d) (list_all is_digit ds) h in All-cons no_gap d ds (digit_apart d p.0) (digits_plain ds p.1)

decimal_word : (n : ℕ) → n < 2 ^ 64 → IsWord (decimal n)
decimal_word n h = let s = spells n h in record { some = s.some; plain = digits_plain (decimal n) s.digits }

kept : (w : List ℕ) (ws : List (List ℕ)) → has_bytes w ≡ true → filter has_bytes (w ∷ ws) ≡ w ∷ filter has_bytes ws
kept [] ws h = cc
kept (b ∷ bs) ws h = refl

-- which words stand behind a word, where this stands behind it in the text
abbrev pub Follows : List ℕ → List (List ℕ) → Type 0
Follows tail ws = (w : List ℕ) → IsWord w → words (w ++ tail) ≡ w ∷ ws

pub follows_end : Follows [] []
follows_end w is = ap words (append-nil w) ∙ ap (filter has_bytes) (slice_split_none is_gap w is.plain) ∙ kept w [] is.some

follows_space : (rest : List ℕ) → Follows (32 ∷ rest) (words rest)
follows_space rest w is = ap (filter has_bytes) (slice_split_at is_gap w 32 rest is.plain refl) ∙ kept w (slice_split is_gap rest) is.some

pub follows_word : (v rest : List ℕ) (ws : List (List ℕ)) → IsWord v → Follows rest ws → Follows (32 ∷ (v ++ rest)) (v ∷ ws)
follows_word v rest ws v_is more w is = follows_space (v ++ rest) w is ∙ ap (λ l. w ∷ l) (more v v_is)

abbrev pub Fits64 : ℕ → Type 0
Fits64 n = n < 2 ^ 64

pub follows_numbers : (ns rest : List ℕ) (ws : List (List ℕ)) → All Fits64 ns → Follows rest ws → Follows (spaced ns ++ rest) (map decimal ns ++ ws)
follows_numbers [] rest ws fit more = more
follows_numbers (n ∷ ns) rest ws fit more =
    let behind = follows_numbers ns rest ws (All-tail Fits64 n ns fit) more in
    λ w is.
    ap (λ (l : List ℕ). words (w ++ 32 ∷ l)) (append_assoc (decimal n) (spaced ns) rest)
    ∙ follows_word (decimal n) (spaced ns ++ rest) (map decimal ns ++ ws) (decimal_word n (All-head Fits64 n ns fit)) behind w is

-- ---- arguments

digit_is : (d letter : ℕ) → is_digit d ≡ true → 57 < letter → (d == letter) ≡ false
digit_is d letter h big = grind (arith, common_steps)

no_side : (ds more : List ℕ) (letter : ℕ) → list_all is_digit ds ≡ true → 57 < letter → bytes_eq ds (letter ∷ more) ≡ false
no_side [] more letter h big = refl
no_side (d ∷ ds) more letter h big = ap (λ b. b && bytes_eq ds more) (digit_is d letter (and_parts _ _ h).0 big)

pub argument_found : (n : ℕ) → n < 2 ^ 64 → argument_in (decimal n) ≡ Some n
argument_found n h =
    let s = spells n h in
    let left = no_side (decimal n) (codes "eft") 108 s.digits (omega arith) in
    let right = no_side (decimal n) (codes "ight") 114 s.digits (omega arith) in
    let low = (Decides-ltb n (2 ^ 64)).1 h in
    rw (left, right, s.some, s.digits, s.value, low) refl

pub arguments_found : (ns : List ℕ) (ws : List (List ℕ)) → All Fits64 ns
    → arguments_in (map decimal ns ++ ws) ≡ (ns ++ (arguments_in ws).0, (arguments_in ws).1)
arguments_found [] ws fit = refl
arguments_found (n ∷ ns) ws fit =
    let all = map decimal ns ++ ws in
    ap (λ o. with_argument o (decimal n ∷ all) (arguments_in all)) (argument_found n (All-head Fits64 n ns fit))
    ∙ ap (with_argument (Some n) (decimal n ∷ all)) (arguments_found ns ws (All-tail Fits64 n ns fit))
