-- Tokens, by the places where they begin and end.
use Rattle.std.proofs.Common.{◌≡◌, ℕ, zero, suc, ◌+◌, ◌-◌, ◌<◌, ◌≤◌, List, [], ◌∷◌, length, take, drop, get_or, Bool, true, false, cond, refl, sym, subst, ap, ◌∙◌, arith}
use Rattle.std.proofs.Math.Numerals.{one-add}
use Rattle.std.proofs.Math.Seq.{drop-length}
use Rattle.std.proofs.lemmas.Bool.{and_from, or_left, cond-true, cond-false}
use Rattle.std.proofs.lemmas.List.{drop-drop, length-drop}
use Rattle.std.proofs.lemmas.List.Sums.{prefix_len-le-length}
use Rattle.std.specs.List.{prefix_len, list_all}
use Rattle.sam_text.specs.Numbers.{is_decimal}
use Rattle.sam_text.specs.Bytes.{is_blank, is_digit, is_letter, is_name_byte}
use Rattle.notation.specs.declared.tokens.Token.{Token}
use Rattle.notation.specs.declared.tokens.Placed.{Placed}
use Rattle.notation.specs.Tokens.{front_token, front_length, tokens}

move : (a b : ℕ) → suc a + b ≡ a + suc b
move a b = omega arith

plus-zero : (a : ℕ) → a ≡ a + 0
plus-zero a = omega arith

pub tokens_skip : (more place : ℕ) (bs : List ℕ) → tokens more place bs ≡ tokens 0 (place + more) (drop more bs)
tokens_skip zero place bs = ap (λ k. tokens 0 k bs) (plus-zero place)
tokens_skip (suc more) place [] = refl
tokens_skip (suc more) place (b ∷ bs) = tokens_skip more (suc place) bs ∙ ap (λ k. tokens 0 k (drop more bs)) (move place more)

blanks-step : (t : Bool) (place b : ℕ) (bs : List ℕ) (n : ℕ) → is_blank b ≡ t → tokens 0 (suc place) bs ≡ tokens 0 (suc place + n) (drop n bs) → tokens 0 place (b ∷ bs) ≡ tokens 0 (place + cond t (1 + n) 0) (drop (cond t (1 + n) 0) (b ∷ bs))
blanks-step true place b bs n e h = cond-true (is_blank b) _ _ e ∙ h ∙ ap (λ k. tokens 0 k (drop n bs)) (move place n) ∙ ap (λ k. tokens 0 (place + k) (drop k (b ∷ bs))) (sym (one-add n))
blanks-step false place b bs n e h = ap (λ k. tokens 0 k (b ∷ bs)) (plus-zero place)

pub tokens_past_blanks : (place : ℕ) (bs : List ℕ) → tokens 0 place bs ≡ tokens 0 (place + prefix_len is_blank bs) (drop (prefix_len is_blank bs) bs)
tokens_past_blanks place [] = refl
tokens_past_blanks place (b ∷ bs) = blanks-step (is_blank b) place b bs (prefix_len is_blank bs) refl (tokens_past_blanks (suc place) bs)

-- the first byte is no blank
abbrev pub NoBlank : List ℕ → Type 0
NoBlank [] = Unit {0}
NoBlank (b ∷ bs) = is_blank b ≡ false

behind-step : (t : Bool) (b : ℕ) (bs : List ℕ) (n : ℕ) → is_blank b ≡ t → NoBlank (drop n bs) → NoBlank (drop (cond t (1 + n) 0) (b ∷ bs))
behind-step true b bs n e h = rw one-add h
behind-step false b bs n e h = e

pub behind_blanks : (bs : List ℕ) → NoBlank (drop (prefix_len is_blank bs) bs)
behind_blanks [] = tt
behind_blanks (b ∷ bs) = behind-step (is_blank b) b bs (prefix_len is_blank bs) refl (behind_blanks bs)

prefix-some : (p : ℕ → Bool) (b : ℕ) (bs : List ℕ) → p b ≡ true → 0 < prefix_len p (b ∷ bs)
prefix-some p b bs e = rw e (omega arith)

front-some : (letter digit : Bool) (b : ℕ) (bs : List ℕ) → is_letter b ≡ letter → is_digit b ≡ digit → 0 < cond letter (prefix_len is_name_byte (b ∷ bs)) (cond digit (prefix_len is_digit (b ∷ bs)) 1)
front-some true digit b bs e h = prefix-some is_name_byte b bs (or_left (is_letter b) (is_digit b) e)
front-some false true b bs e h = prefix-some is_digit b bs h
front-some false false b bs e h = omega arith

pub front_length-some : (bs : List ℕ) → 0 < length bs → 0 < front_length bs
front_length-some [] h = absurd (omega (arith, h))
front_length-some (b ∷ bs) h = front-some (is_letter b) (is_digit b) b bs refl refl

front-most : (letter digit : Bool) (b : ℕ) (bs : List ℕ) → cond letter (prefix_len is_name_byte (b ∷ bs)) (cond digit (prefix_len is_digit (b ∷ bs)) 1) ≤ length (b ∷ bs)
front-most true digit b bs = prefix_len-le-length is_name_byte (b ∷ bs)
front-most false true b bs = prefix_len-le-length is_digit (b ∷ bs)
front-most false false b bs = omega arith

pub front_length-most : (bs : List ℕ) → front_length bs ≤ length bs
front_length-most [] = omega arith
front_length-most (b ∷ bs) = front-most (is_letter b) (is_digit b) b bs

abbrev pub placed : Token → ℕ → Placed
placed token place = record { token = token; place = place }

less-one : (n : ℕ) → suc n - 1 ≡ n
less-one n = omega arith

skip-front : (n place b : ℕ) (bs : List ℕ) → 0 < n → tokens (n - 1) (suc place) bs ≡ tokens 0 (place + n) (drop n (b ∷ bs))
skip-front zero place b bs h = absurd (omega (arith, h))
skip-front (suc n) place b bs h = ap (λ k. tokens k (suc place) bs) (less-one n) ∙ tokens_skip n (suc place) bs ∙ ap (λ k. tokens 0 k (drop n bs)) (move place n)

pub tokens_front : (place : ℕ) (bs : List ℕ) → 0 < length bs → NoBlank bs → tokens 0 place bs ≡ placed (front_token bs) place ∷ tokens 0 (place + front_length bs) (drop (front_length bs) bs)
tokens_front place [] h none = absurd (omega (arith, h))
tokens_front place (b ∷ bs) h none = cond-false (is_blank b) _ _ none ∙ ap (λ ts. placed (front_token (b ∷ bs)) place ∷ ts) (skip-front (front_length (b ∷ bs)) place b bs (front_length-some (b ∷ bs) h))

pub blanks_within : (text : List ℕ) (from blanks : ℕ) → from ≤ length text → blanks ≡ prefix_len is_blank (drop from text) → from + blanks ≤ length text
blanks_within text from blanks h e =
    let most = prefix_len-le-length is_blank (drop from text) in
    let rest = length-drop from text in
    omega (arith, e)

past : (text : List ℕ) (from blanks : ℕ) → blanks ≡ prefix_len is_blank (drop from text) → tokens 0 from (drop from text) ≡ tokens 0 (from + blanks) (drop (from + blanks) text)
past text from blanks e = tokens_past_blanks from (drop from text) ∙ rw (← e) (ap (λ bs. tokens 0 (from + blanks) bs) (drop-drop blanks from text))

pub no_token : (text : List ℕ) (from blanks : ℕ) → blanks ≡ prefix_len is_blank (drop from text) → from + blanks ≡ length text → tokens 0 from (drop from text) ≡ []
no_token text from blanks e all = past text from blanks e ∙ rw all (ap (λ bs. tokens 0 (length text) bs) (drop-length text))

pub record Next (text : List ℕ) (from begin count : ℕ) (token : Token) : Type 0 where
  pub next : tokens 0 from (drop from text) ≡ placed token begin ∷ tokens 0 (begin + count) (drop (begin + count) text)
  pub some : 0 < count
  pub within : begin + count ≤ length text

pub next_token : (text : List ℕ) (from blanks count : ℕ) (token : Token) → from ≤ length text → blanks ≡ prefix_len is_blank (drop from text) → from + blanks < length text
    → token ≡ front_token (drop (from + blanks) text) → count ≡ front_length (drop (from + blanks) text) → Next text from (from + blanks) count token
next_token text from blanks count token h e less t n =
    let begin = from + blanks in
    let rest = drop begin text in
    let rest-length = length-drop begin text in
    let some : 0 < length rest = omega arith in
    let begins : NoBlank rest = subst (λ bs. NoBlank bs) (rw (← e) (drop-drop blanks from text)) (behind_blanks (drop from text)) in
    let most = front_length-most rest in
    record {
      next = past text from blanks e ∙ tokens_front begin rest some begins ∙ rw (← t, ← n) (ap (λ bs. placed token begin ∷ tokens 0 (begin + count) bs) (drop-drop count begin text));
      some = rw n (front_length-some rest some);
      within = omega arith;
    }

digits-step : (t : Bool) (b : ℕ) (bs : List ℕ) (n : ℕ) → is_digit b ≡ t → list_all is_digit (take n bs) ≡ true → list_all is_digit (take (cond t (1 + n) 0) (b ∷ bs)) ≡ true
digits-step true b bs n e h = rw one-add (and_from (is_digit b) (list_all is_digit (take n bs)) e h)
digits-step false b bs n e h = refl

pub digits_in_front : (bs : List ℕ) → list_all is_digit (take (prefix_len is_digit bs) bs) ≡ true
digits_in_front [] = refl
digits_in_front (b ∷ bs) = digits-step (is_digit b) b bs (prefix_len is_digit bs) refl (digits_in_front bs)

decimal-if : (n : ℕ) (bs : List ℕ) → 0 < n → 0 < length bs → list_all is_digit (take n bs) ≡ true → is_decimal (take n bs) ≡ true
decimal-if zero bs h k e = absurd (omega (arith, h))
decimal-if (suc n) [] h k e = absurd (omega (arith, k))
decimal-if (suc n) (b ∷ bs) h k e = e

first-digit : (bs : List ℕ) → 0 < length bs → is_digit (get_or bs 0 0) ≡ true → 0 < prefix_len is_digit bs
first-digit [] h e = absurd (omega (arith, h))
first-digit (b ∷ bs) h e = prefix-some is_digit b bs e

pub digits_are_decimal : (bs : List ℕ) → 0 < length bs → is_digit (get_or bs 0 0) ≡ true → is_decimal (take (prefix_len is_digit bs) bs) ≡ true
digits_are_decimal bs h e = decimal-if (prefix_len is_digit bs) bs (first-digit bs h e) h (digits_in_front bs)
