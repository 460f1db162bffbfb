-- The definitions, tried on cases by hand.
use Rattle.std.proofs.Common.{◌≡◌, [], ◌∷◌, ◌++◌, true, false, Ok, Err, refl, codes}
use Rattle.sam_text.specs.Lines.{lines}
use Rattle.sam_text.specs.Words.{words}
use Rattle.sam_text.specs.Names.{is_name}
use Rattle.sam_text.specs.Numbers.{number_reading}
use Rattle.sam_text.specs.declared.numbers.NumFault.TheVariants.{BadNumber, NumberTooLarge}

no_lines : lines [] ≡ []
no_lines = refl

empty_line : lines (10 ∷ []) ≡ [] ∷ []
empty_line = refl

-- the last line counts where it has bytes
three_lines : lines (codes "ab" ++ 10 ∷ 10 ∷ codes "c") ≡ codes "ab" ∷ [] ∷ codes "c" ∷ []
three_lines = refl

two_lines : lines (codes "ab" ++ 10 ∷ codes "c" ++ 10 ∷ []) ≡ codes "ab" ∷ codes "c" ∷ []
two_lines = refl

three_words : words (codes "  ab c" ++ 9 ∷ 13 ∷ 10 ∷ codes "d ") ≡ codes "ab" ∷ codes "c" ∷ codes "d" ∷ []
three_words = refl

no_words : words (32 ∷ 9 ∷ 13 ∷ []) ≡ []
no_words = refl

other_bytes : words (11 ∷ 32 ∷ 195 ∷ 169 ∷ []) ≡ (11 ∷ []) ∷ (195 ∷ 169 ∷ []) ∷ []
other_bytes = refl

name : is_name (codes "_a9") ≡ true
name = refl

longer_name : is_name (codes "sums") ≡ true
longer_name = refl

sum_is_no_name : is_name (codes "sum") ≡ false
sum_is_no_name = refl

number : number_reading 3 (codes "0018") ≡ Ok 18
number = refl

greatest : number_reading 3 (codes "18446744073709551615") ≡ Ok 18446744073709551615
greatest = refl

too_large : number_reading 3 (codes "18446744073709551616") ≡ Err (NumberTooLarge 3)
too_large = refl

no_digit : number_reading 3 (codes "99999999999999999999a") ≡ Err (BadNumber 23)
no_digit = refl

empty : number_reading 3 [] ≡ Err (BadNumber 3)
empty = refl
