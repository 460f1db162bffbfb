-- Decimals.
use Rattle.std.specs.Prelude.{ℕ, ◌+◌, ◌-◌, ◌*◌, ◌^◌, List, Bool, ◌&&◌, Result, Ok, Err, fold, nat_lt, if◌then◌else◌}
use Rattle.std.specs.List.{prefix_len, list_all}
use Rattle.sam_text.specs.Bytes.{is_digit}
use Rattle.sam_text.specs.Words.{has_bytes}
use Rattle.sam_text.specs.declared.numbers.NumFault.{NumFault}
use Rattle.sam_text.specs.declared.numbers.NumFault.TheVariants.{BadNumber, NumberTooLarge}

-- one or more digits; leading zeros are allowed
abbrev pub is_decimal : List ℕ → Bool
is_decimal bs = has_bytes bs && list_all is_digit bs

-- the number that digits spell
abbrev pub decimal : List ℕ → ℕ
decimal bs = fold (λ n b. n * 10 + (b - 48)) 0 bs

-- What a text that begins at this place is read as: the first byte that is no digit is told first, and the end of an
-- empty text.
abbrev pub number_reading : ℕ → List ℕ → Result ℕ NumFault
number_reading from bs =
    if is_decimal bs
    then (if nat_lt (decimal bs) (2 ^ 64) then Ok (decimal bs) else Err (NumberTooLarge from))
    else Err (BadNumber (from + prefix_len is_digit bs))
