-- The number of digits.
use Rattle.std.proofs.Common.{Option, Some, None, Result, Ok, Err, ◌^◌, subst, nat_lt, cond, ◌&&◌, ◌⊎◌, inl, inr, ◌≡◌, ℕ, zero, suc, ◌+◌, ◌-◌, ◌*◌, ◌<◌, ◌≤◌, List, [], ◌∷◌, length, take, drop, get_or, min, Bool, true, false, refl, sym, ap, ◌∙◌, arith, fold}
use Rattle.std.specs.List.{list_all, prefix_len}
use Rattle.std.proofs.lemmas.Bool.{and_parts, le-ltb, cond-true, cond-false}
use Rattle.std.proofs.Math.Nat.{pow-succ'}
use Rattle.std.proofs.lemmas.List.Sums.{fold_more, fold-append, prefix_len_stops, prefix_len-le-length}
use Rattle.std.proofs.lemmas.List.Folds.{list_all_at}
use Rattle.std.proofs.lemmas.List.{take-append-drop}
use Rattle.sam_text.specs.Bytes.{is_digit}
use Rattle.sam_text.specs.Numbers.{decimal, is_decimal, number_reading}
use Rattle.sam_text.specs.declared.numbers.NumFault.{NumFault}
use Rattle.sam_text.specs.declared.numbers.NumFault.TheVariants.{BadNumber, NumberTooLarge}

pub digit_at : (bs : List ℕ) (i d : ℕ) → list_all is_digit bs ≡ true → i < length bs → is_digit (get_or bs i d) ≡ true
digit_at [] i d h k = absurd (omega (arith, k))
digit_at (b ∷ bs) zero d h k = (and_parts _ _ h).0
digit_at (b ∷ bs) (suc i) d h k = digit_at bs i d (and_parts _ _ h).1 (omega arith)

pub decimal_more : (bs : List ℕ) (i d : ℕ) → i < length bs → decimal (take (i + 1) bs) ≡ decimal (take i bs) * 10 + (get_or bs i d - 48)
decimal_more bs i d h = fold_more (λ n b. n * 10 + (b - 48)) 0 bs i d h

-- more digits make no less
fold-least : (n : ℕ) (bs : List ℕ) → n ≤ fold (λ n b. n * 10 + (b - 48)) n bs
fold-least n [] = omega arith
fold-least n (b ∷ bs) = let h = fold-least (n * 10 + (b - 48)) bs in omega arith

pub decimal_part : (i : ℕ) (bs : List ℕ) → decimal (take i bs) ≤ decimal bs
decimal_part i bs =
    let f = λ (n b : ℕ). n * 10 + (b - 48) in
    let whole : decimal bs ≡ fold f (decimal (take i bs)) (drop i bs) = ap decimal (sym (take-append-drop i bs)) ∙ fold-append f 0 (take i bs) (drop i bs) in
    subst (λ n. decimal (take i bs) ≤ n) (sym whole) (fold-least (decimal (take i bs)) (drop i bs))

-- where the digits so far are too many, all are
pub too_large : (bs : List ℕ) (i d : ℕ) → i < length bs → 2 ^ 64 ≤ decimal (take i bs) * 10 + (get_or bs i d - 48) → nat_lt (decimal bs) (2 ^ 64) ≡ false
too_large bs i d h k =
    let more = decimal_more bs i d h in
    let least = decimal_part (i + 1) bs in
    le-ltb (decimal bs) (2 ^ 64) (omega arith)

-- where a text has a byte that is no digit, or none, it is no decimal
pub is_decimal-false : (bs : List ℕ) → (prefix_len is_digit bs < length bs) ⊎ (length bs ≡ 0) → is_decimal bs ≡ false
is_decimal-false [] h = refl
is_decimal-false (b ∷ bs) (inl h) = list_all_at is_digit (b ∷ bs) (prefix_len is_digit (b ∷ bs)) 0 h (prefix_len_stops is_digit (b ∷ bs) 0 h)
is_decimal-false (b ∷ bs) (inr h) = absurd (omega (arith, h))

all-step : (t : Bool) (b : ℕ) (bs : List ℕ) (n : ℕ) → (length bs ≤ n → list_all is_digit bs ≡ true) → length (b ∷ bs) ≤ cond t (1 + n) 0 → (t && list_all is_digit bs) ≡ true
all-step true b bs n h k = h (omega arith)
all-step false b bs n h k = absurd (omega (arith, k))

pub all_digits : (bs : List ℕ) → length bs ≤ prefix_len is_digit bs → list_all is_digit bs ≡ true
all_digits [] h = refl
all_digits (b ∷ bs) h = all-step (is_digit b) b bs (prefix_len is_digit bs) (all_digits bs) h

pub is_decimal-true : (bs : List ℕ) → 0 < length bs → list_all is_digit bs ≡ true → is_decimal bs ≡ true
is_decimal-true [] h e = absurd (omega (arith, h))
is_decimal-true (b ∷ bs) h e = e

pub number_at-bad : (from : ℕ) (bs : List ℕ) (count : ℕ) → is_decimal bs ≡ false → count ≡ prefix_len is_digit bs → Err (BadNumber (from + count)) ≡ number_reading from bs
number_at-bad from bs count h e = sym (cond-false (is_decimal bs) _ _ h ∙ ap (λ n. Err (BadNumber (from + n))) (sym e))

abbrev answer : ℕ → Option ℕ → Result ℕ NumFault
answer from (Some n) = Ok n
answer from None = Err (NumberTooLarge from)

value-step : (t : Bool) (from n : ℕ) (o : Option ℕ) → o ≡ cond t (Some n) None → answer from o ≡ cond t (Ok n) (Err (NumberTooLarge from))
value-step true from n o e = ap (answer from) e
value-step false from n o e = ap (answer from) e

pub number_at-value : (from : ℕ) (bs : List ℕ) (o : Option ℕ) → is_decimal bs ≡ true → o ≡ cond (nat_lt (decimal bs) (2 ^ 64)) (Some (decimal bs)) None → answer from o ≡ number_reading from bs
number_at-value from bs o h e = value-step (nat_lt (decimal bs) (2 ^ 64)) from (decimal bs) o e ∙ sym (cond-true (is_decimal bs) _ _ h)

-- ---- the digits at the beginning

pub tens : (k n : ℕ) → k ≤ n → 10 ^ k ≤ 10 ^ n
tens zero zero h = omega arith
tens zero (suc n) h = let r = tens zero n (omega arith) in omega (arith, r, pow-succ' 10 n)
tens (suc k) zero h = absurd (omega (arith, h))
tens (suc k) (suc n) h = let r = tens k n (omega arith) in omega (arith, r, pow-succ' 10 k, pow-succ' 10 n)

passes-least : (n : ℕ) (bs : List ℕ) → n ≤ length bs → list_all is_digit (take n bs) ≡ true → n ≤ prefix_len is_digit bs
passes-least zero bs h all = omega arith
passes-least (suc n) [] h all = absurd (omega arith)
passes-least (suc n) (b ∷ bs) h all = let parts : (is_digit b ≡ true) × (list_all is_digit (take n bs) ≡ true) = and_parts _ _ all in let r = passes-least n bs (omega arith) parts.1 in rw parts.0 (omega (arith, r))

passes-here : (n : ℕ) (bs : List ℕ) → n < length bs → list_all is_digit (take n bs) ≡ true → is_digit (get_or bs n 0) ≡ false → prefix_len is_digit bs ≡ n
passes-here n [] h all fails = absurd (omega arith)
passes-here zero (b ∷ bs) h all fails = rw fails refl
passes-here (suc n) (b ∷ bs) h all fails = let parts : (is_digit b ≡ true) × (list_all is_digit (take n bs) ≡ true) = and_parts _ _ all in rw (parts.0, passes-here n bs (omega arith) parts.1 fails) (omega arith)

-- where reading stops before the most digits, the digits end
pub stops-before : (n most : ℕ) (bs : List ℕ) → n < length bs → n ≤ most → list_all is_digit (take n bs) ≡ true → is_digit (get_or bs n 0) ≡ false → n ≡ min most (prefix_len is_digit bs)
stops-before n most bs h k all fails = rw (passes-here n bs h all fails) (omega arith)

-- where it goes on to the most or to the end of the text
pub stops-last : (n most : ℕ) (bs : List ℕ) → n ≤ length bs → n ≤ most → min (length bs) most ≤ n → list_all is_digit (take n bs) ≡ true → n ≡ min most (prefix_len is_digit bs)
stops-last n most bs h k last all = omega (arith, passes-least n bs h all, prefix_len-le-length is_digit bs)
