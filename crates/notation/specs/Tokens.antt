-- The tokens of a text.
use Rattle.std.specs.Prelude.{ℕ, zero, suc, ◌-◌, ◌^◌, List, [], ◌∷◌, if◌then◌else◌, ◌==◌, nat_lt, take_while}
use Rattle.std.specs.List.{prefix_len}
use Rattle.std.specs.Str.{bytes_eq}
use Rattle.sam_text.specs.Bytes.{is_blank, is_digit, is_letter, is_name_byte}
use Rattle.sam_text.specs.Names.{sum_word}
use Rattle.sam_text.specs.Numbers.{decimal}
use Rattle.notation.specs.declared.tokens.Token.{Token}
use Rattle.notation.specs.declared.tokens.Token.TheVariants.{Name, Number, TooLarge, Sum, Plus, Minus, Star, Open, Close, Comma, Equals, Bad}
use Rattle.notation.specs.declared.tokens.Placed.{Placed}

-- a word of letters, digits and `_`
abbrev pub word_token : List ℕ → Token
word_token word = if bytes_eq word sum_word then Sum else Name word

abbrev pub digits_token : List ℕ → Token
digits_token digits = if nat_lt (decimal digits) (2 ^ 64) then Number (decimal digits) else TooLarge

-- a byte that is a token by itself, or begins none
abbrev pub symbol : ℕ → Token
symbol b =
    if b == 43 then Plus
    else (if b == 45 then Minus
    else (if b == 42 then Star
    else (if b == 40 then Open
    else (if b == 41 then Close
    else (if b == 44 then Comma
    else (if b == 61 then Equals
    else Bad))))))

-- A token is the longest that begins at its first byte: this is the one in front of a text,
abbrev pub front_token : List ℕ → Token
front_token [] = Bad
front_token (b ∷ bs) =
    if is_letter b then word_token (take_while is_name_byte (b ∷ bs))
    else (if is_digit b then digits_token (take_while is_digit (b ∷ bs))
    else symbol b)

-- and this is how many bytes it has.
abbrev pub front_length : List ℕ → ℕ
front_length [] = 0
front_length (b ∷ bs) =
    if is_letter b then prefix_len is_name_byte (b ∷ bs)
    else (if is_digit b then prefix_len is_digit (b ∷ bs)
    else 1)

-- The tokens of a text that begins at a place, where its first bytes, so many, are more of a token. Blanks stand between.
abbrev pub tokens : ℕ → ℕ → List ℕ → List Placed
tokens more place [] = []
tokens (suc more) place (b ∷ bs) = tokens more (suc place) bs
tokens zero place (b ∷ bs) =
    if is_blank b then tokens 0 (suc place) bs
    else (record { token = front_token (b ∷ bs); place = place }) ∷ tokens (front_length (b ∷ bs) - 1) (suc place) bs

-- the tokens of a whole text
abbrev pub tokens_of : List ℕ → List Placed
tokens_of text = tokens 0 0 text
