-- The parts of a word.
use Rattle.std.proofs.Common.{◌≡◌, ℕ, ◌+◌, ◌<◌, List, [], ◌∷◌, ◌++◌, length, take, drop, Bool, true, false, not, ◌&&◌, ◌==◌, inl, inr, cond, refl, sym, ap, ◌∙◌, arith, append_assoc}
use Rattle.std.proofs.lemmas.Bool.{cases_lt}
use Rattle.std.proofs.lemmas.List.Sums.{prefix_len-le-length}
use Rattle.std.specs.List.{position_or_len, slice_split, onto_first, list_all}
use Rattle.std.proofs.lemmas.List.{take_all}
use mathlib.Core.List.{map}
use Rattle.std.proofs.lemmas.List.Splits.{slice_split-cons_no, slice_split_first}
use Rattle.sam_text.specs.Numbers.{is_decimal}
use Rattle.program_file.specs.Declarations.{parts, are_decimals, numbers, capped}

last-step : (p : ℕ → Bool) (t : Bool) (b : ℕ) (bs : List ℕ) (n : ℕ) → p b ≡ t → (n ≡ length bs → slice_split p bs ≡ bs ∷ []) → cond (not t) (1 + n) 0 ≡ length (b ∷ bs) → slice_split p (b ∷ bs) ≡ (b ∷ bs) ∷ []
last-step p true b bs n e h all = absurd (omega (arith, all))
last-step p false b bs n e h all = slice_split-cons_no p b bs e ∙ ap (λ ps. onto_first b ps) (h (omega (arith, all)))

last-part : (p : ℕ → Bool) (bs : List ℕ) → position_or_len p bs ≡ length bs → slice_split p bs ≡ bs ∷ []
last-part p [] e = refl
last-part p (b ∷ bs) e = last-step p (p b) b bs (position_or_len p bs) refl (last-part p bs) e

-- the first of several parts
pub first_part : (byte : ℕ) (bs : List ℕ) (k : ℕ) → k ≡ position_or_len (λ b. b == byte) bs → k < length bs → parts byte bs ≡ take k bs ∷ parts byte (drop (k + 1) bs)
first_part byte bs k e h = slice_split_first (λ b. b == byte) bs 0 (rw (← e) h) ∙ rw (← e) refl

-- the last part
pub last_part : (byte : ℕ) (bs : List ℕ) (k : ℕ) → k ≡ position_or_len (λ b. b == byte) bs → k ≡ length bs → parts byte bs ≡ take k bs ∷ []
last_part byte bs k e h = last-part (λ b. b == byte) bs (sym e ∙ h) ∙ ap (λ w. w ∷ []) (sym (take_all k bs (omega (arith, h))))

pub decimals_more : (byte : ℕ) (bs rest : List ℕ) (w : List ℕ) (b : Bool) → parts byte bs ≡ w ∷ parts byte rest → is_decimal w ≡ true → are_decimals byte bs ≡ b → are_decimals byte rest ≡ b
decimals_more byte bs rest w b e h k = sym (ap (λ ps. list_all is_decimal ps) e ∙ ap (λ t. t && list_all is_decimal (parts byte rest)) h) ∙ k

pub decimals_stop : (byte : ℕ) (bs : List ℕ) (w : List ℕ) (ps : List (List ℕ)) → parts byte bs ≡ w ∷ ps → is_decimal w ≡ false → are_decimals byte bs ≡ false
decimals_stop byte bs w ps e h = ap (λ ps. list_all is_decimal ps) e ∙ ap (λ t. t && list_all is_decimal ps) h

pub decimals_last : (byte : ℕ) (bs : List ℕ) (w : List ℕ) → parts byte bs ≡ w ∷ [] → is_decimal w ≡ true → are_decimals byte bs ≡ true
decimals_last byte bs w e h = ap (λ ps. list_all is_decimal ps) e ∙ ap (λ t. t && true) h

pub numbers_more : (byte : ℕ) (found : List ℕ) (bs rest : List ℕ) (w : List ℕ) (n : ℕ) (all : List ℕ) → parts byte bs ≡ w ∷ parts byte rest → n ≡ capped w → found ++ numbers byte bs ≡ all → (found ++ n ∷ []) ++ numbers byte rest ≡ all
numbers_more byte found bs rest w n all e h k = append_assoc found (n ∷ []) (numbers byte rest) ∙ ap (λ m. found ++ m ∷ numbers byte rest) h ∙ ap (λ ps. found ++ map capped ps) (sym e) ∙ k

pub numbers_last : (byte : ℕ) (found : List ℕ) (bs : List ℕ) (w : List ℕ) (n : ℕ) (all : List ℕ) → parts byte bs ≡ w ∷ [] → n ≡ capped w → found ++ numbers byte bs ≡ all → found ++ n ∷ [] ≡ all
numbers_last byte found bs w n all e h k = ap (λ m. found ++ m ∷ []) h ∙ ap (λ ps. found ++ map capped ps) (sym e) ∙ k

pub some_part : (byte : ℕ) (bs : List ℕ) (k : ℕ) → k ≡ position_or_len (λ b. b == byte) bs → (ps : List (List ℕ)) × (parts byte bs ≡ take k bs ∷ ps)
some_part byte bs k e = elim (cases_lt k (length bs)) [
  | inl h ↦ (parts byte (drop (k + 1) bs), first_part byte bs k e h)
  | inr h ↦ ([], last_part byte bs k e (let most = prefix_len-le-length (λ b. not (b == byte)) bs in omega (arith, e)))
]
