-- The point of a value.
use Rattle.std.proofs.Common.{◌≡◌, ℕ, ◌+◌, ◌≤◌, ◌∙◌, Bool, true, false, cond, not, ◌&&◌, ◌||◌, List, [], ◌∷◌, Err, length, take, drop, eqb, refl, ap, arith}
use Rattle.std.specs.List.{list_all, position_or_len, before_first, after_first}
use Rattle.std.proofs.Math.Seq.{take-length}
use Rattle.std.proofs.lemmas.Bool.{and_parts, cond-false}
use Rattle.std.proofs.lemmas.Bool.Decides.{nat_tests}
use Rattle.std.proofs.lemmas.List.{drop_all}
use Rattle.std.proofs.lemmas.List.Sums.{prefix_len-le-length}
use Rattle.sam_base.specs.declared.faults.TnsKind.TheVariants.{BadField, Fraction}
use Rattle.sam_text.specs.Bytes.{is_digit}
use Rattle.sam_text.specs.Numbers.{is_decimal, decimal}
use Rattle.tns_io.specs.Values.{is_point, is_zero, is_minus, unsigned, whole_part, fraction_part, signed_value, word_value}

pub point_within : (bs : List ℕ) → position_or_len is_point bs ≤ length bs
point_within bs = prefix_len-le-length (λ b. not (is_point b)) bs

-- ---- a decimal alone is a value

digit-no-sign : (b : ℕ) → is_digit b ≡ true → (eqb b 45 || eqb b 43) ≡ false
digit-no-sign b h = grind (arith, nat_tests)

digit-no-minus : (b : ℕ) → is_digit b ≡ true → eqb b 45 ≡ false
digit-no-minus b h = grind (arith, nat_tests)

digit-no-point : (b : ℕ) → is_digit b ≡ true → is_point b ≡ false
digit-no-point b h = grind (arith, nat_tests)

no-point : (bs : List ℕ) → list_all is_digit bs ≡ true → position_or_len is_point bs ≡ length bs
no-point [] h = refl
no-point (b ∷ bs) h =
    let parts = and_parts _ _ h in
    let rest = no-point bs parts.1 in
    rw (digit-no-point b parts.0, rest) (omega arith)

-- a value of digits behind at most a sign
pub signed-decimal : (w ds : List ℕ) (m : Bool) (n : ℕ) → unsigned w ≡ ds → is_minus w ≡ m → is_decimal ds ≡ true → decimal ds ≡ n → word_value w ≡ signed_value m n
signed-decimal w [] m n bare sign h e = absurd (cc)
signed-decimal w (b ∷ bs) m n bare sign h e =
    let end : position_or_len is_point (b ∷ bs) ≡ length (b ∷ bs) = no-point (b ∷ bs) h in
    let whole : whole_part w ≡ b ∷ bs = ap (λ w. before_first is_point w) bare ∙ ap (λ k. take k (b ∷ bs)) end ∙ take-length (b ∷ bs) in
    let none : fraction_part w ≡ [] = ap (λ w. after_first is_point w) bare ∙ ap (λ k. drop (k + 1) (b ∷ bs)) end ∙ drop_all (length (b ∷ bs) + 1) (b ∷ bs) (omega arith) in
    read (whole_part w) (fraction_part w) (is_minus w) whole none sign
  where
    decided : (t : Bool) (k : ℕ) → t ≡ true → k ≡ n → cond (t && true) (signed_value m k) (Err BadField) ≡ signed_value m n
    decided true k t f = ap (signed_value m) f
    decided false k t f = absurd (cc)

    read : (w f : List ℕ) (s : Bool) → w ≡ b ∷ bs → f ≡ [] → s ≡ m
        → cond (is_decimal w && list_all is_digit f) (cond (list_all is_zero f) (signed_value s (decimal w)) (Err Fraction)) (Err BadField) ≡ signed_value m n
    read w f s ew ef es = rw (ew, ef, es) (decided (is_decimal (b ∷ bs)) (decimal (b ∷ bs)) h e)

pub decimal-value : (word : List ℕ) (n : ℕ) → is_decimal word ≡ true → decimal word ≡ n → word_value word ≡ signed_value false n
decimal-value [] n h e = absurd (cc)
decimal-value (b ∷ bs) n h e =
    let first = (and_parts _ _ h).0 in
    signed-decimal (b ∷ bs) (b ∷ bs) false n (cond-false (eqb b 45 || eqb b 43) bs (b ∷ bs) (digit-no-sign b first)) (digit-no-minus b first) h e

-- and behind a minus
pub minus-value : (ds : List ℕ) (n : ℕ) → is_decimal ds ≡ true → decimal ds ≡ n → word_value (45 ∷ ds) ≡ signed_value true n
minus-value ds n h e = signed-decimal (45 ∷ ds) ds true n refl refl h e
