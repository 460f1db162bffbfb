-- The words of an entry of a tensor file.
use Rattle.std.specs.Prelude.{ℕ, ◌-◌, ◌%◌, ◌^◌, ◌==◌, ◌||◌, ◌&&◌, Bool, true, false, List, [], ◌∷◌, Result, Ok, Err, nat_le, nat_lt, if◌then◌else◌}
use Rattle.std.specs.List.{list_all, before_first, after_first}
use Rattle.sam_base.specs.declared.faults.TnsKind.{TnsKind}
use Rattle.sam_base.specs.declared.faults.TnsKind.TheVariants.{BadField, CoordinateRange, Fraction, ValueRange}
use Rattle.sam_text.specs.Bytes.{is_digit}
use Rattle.sam_text.specs.Numbers.{is_decimal, decimal}

-- a coordinate in a mode of this size: a number from 1 to the size stands for a coordinate from 0
abbrev pub number_coordinate : ℕ → ℕ → Result ℕ TnsKind
number_coordinate size n = if nat_le 1 n && nat_le n size then Ok (n - 1) else Err CoordinateRange

abbrev pub word_coordinate : ℕ → List ℕ → Result ℕ TnsKind
word_coordinate size word = if is_decimal word then number_coordinate size (decimal word) else Err BadField

abbrev pub is_point : ℕ → Bool
is_point b = b == 46

abbrev pub is_zero : ℕ → Bool
is_zero b = b == 48

-- whether a value has a `-`
abbrev pub is_minus : List ℕ → Bool
is_minus [] = false
is_minus (b ∷ bs) = b == 45

-- a value without its sign
abbrev pub unsigned : List ℕ → List ℕ
unsigned [] = []
unsigned (b ∷ bs) = if b == 45 || b == 43 then bs else b ∷ bs

-- what stands before the point of a value, and behind it
abbrev pub whole_part : List ℕ → List ℕ
whole_part word = before_first is_point (unsigned word)

abbrev pub fraction_part : List ℕ → List ℕ
fraction_part word = after_first is_point (unsigned word)

-- an optional sign, a decimal, and optionally a point and any number of digits
abbrev pub is_value : List ℕ → Bool
is_value word = is_decimal (whole_part word) && list_all is_digit (fraction_part word)

-- a number with its sign is from -2^63 to 2^64-1, and is kept modulo 2^64
abbrev pub signed_value : Bool → ℕ → Result ℕ TnsKind
signed_value true n = if nat_le n (2 ^ 63) then Ok ((2 ^ 64 - n) % 2 ^ 64) else Err ValueRange
signed_value false n = if nat_lt n (2 ^ 64) then Ok n else Err ValueRange

-- a value, whose fraction is to be 0
abbrev pub word_value : List ℕ → Result ℕ TnsKind
word_value word =
    if is_value word
    then (if list_all is_zero (fraction_part word) then signed_value (is_minus word) (decimal (whole_part word)) else Err Fraction)
    else Err BadField
