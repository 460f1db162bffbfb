-- The definitions, tried on files by hand.
use Rattle.std.proofs.Common.{◌≡◌, ◌-◌, ◌^◌, ℕ, List, [], ◌∷◌, Result, Ok, Err, codes, refl}
use Rattle.sam_base.specs.declared.faults.TnsKind.{TnsKind}
use Rattle.sam_base.specs.declared.faults.TnsKind.TheVariants.{FieldCount, BadField, CoordinateRange, Fraction, ValueRange, TooManyEntries}
use Rattle.tns_io.specs.Values.{word_coordinate, word_value}
use Rattle.tns_io.specs.Fields.{Entry}
use Rattle.tns_io.specs.Entries.{next_entry, tns_entries}

-- a vector of 4
abbrev vector : List ℕ → Result (List Entry) (TnsKind × ℕ)
vector text = tns_entries (4 ∷ []) text

-- a comment, an empty line, and repeated coordinates, which stay apart
copied : vector (codes "# c\n\n1 2\n1 3.0\n") ≡ Ok (((0 ∷ []), 2) ∷ ((0 ∷ []), 3) ∷ [])
copied = refl

copied-fraction : vector (codes "# c\n\n1 2\n1 1.5") ≡ Err (Fraction, 4)
copied-fraction = refl

last-coordinate : vector (codes "4 1") ≡ Ok (((3 ∷ []), 1) ∷ [])
last-coordinate = refl

past-last : vector (codes "5 1") ≡ Err (CoordinateRange, 1)
past-last = refl

zero-coordinate : vector (codes "0 1") ≡ Err (CoordinateRange, 1)
zero-coordinate = refl

one-word : vector (codes "1") ≡ Err (FieldCount, 1)
one-word = refl

no-decimal : vector (codes "x 1") ≡ Err (BadField, 1)
no-decimal = refl

too-large : vector (codes "1 18446744073709551616") ≡ Err (ValueRange, 1)
too-large = refl

largest : vector (codes "1 18446744073709551615") ≡ Ok (((0 ∷ []), 2 ^ 64 - 1) ∷ [])
largest = refl

nothing : vector [] ≡ Ok []
nothing = refl

-- the first bad line is told, whatever stands behind it
first-line : vector (codes "1 1\n9 1\nx\n") ≡ Err (CoordinateRange, 2)
first-line = refl

-- words are tried one by one, their form before their range
matrix-form : tns_entries (2 ∷ 3 ∷ []) (codes "3 x 1") ≡ Err (CoordinateRange, 1)
matrix-form = refl

matrix-range : tns_entries (2 ∷ 3 ∷ []) (codes "2 x 1.5") ≡ Err (BadField, 1)
matrix-range = refl

matrix : tns_entries (2 ∷ 3 ∷ []) (codes " 2\t003 -1\r\n#\n1 1 +7.") ≡ Ok (((1 ∷ 2 ∷ []), 2 ^ 64 - 1) ∷ ((0 ∷ 0 ∷ []), 7) ∷ [])
matrix = refl

huge-coordinate : word_coordinate 4 (codes "100000000000000000000") ≡ Err CoordinateRange
huge-coordinate = refl

least-value : word_value (codes "-9223372036854775808.00") ≡ Ok (2 ^ 63)
least-value = refl

below-least : word_value (codes "-9223372036854775809") ≡ Err ValueRange
below-least = refl

-- a fraction comes before the range
fraction-first : word_value (codes "18446744073709551616.5") ≡ Err Fraction
fraction-first = refl

minus-zero : word_value (codes "-0") ≡ Ok 0
minus-zero = refl

no-whole : word_value (codes ".5") ≡ Err BadField
no-whole = refl

sign-alone : word_value (codes "+") ≡ Err BadField
sign-alone = refl

two-points : word_value (codes "1.0.0") ≡ Err BadField
two-points = refl

-- one entry too many; a bad entry has its own kind there
one-more : next_entry (4 ∷ []) 4194304 (codes "1 1") ≡ Err TooManyEntries
one-more = refl

one-more-bad : next_entry (4 ∷ []) 4194304 (codes "1 1.5") ≡ Err Fraction
one-more-bad = refl

last-one : next_entry (4 ∷ []) 4194303 (codes "1 1") ≡ Ok ((0 ∷ []), 1)
last-one = refl
