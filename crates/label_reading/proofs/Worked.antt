-- Some texts, and the labels that they spell.
use Rattle.std.proofs.Common.{◌≡◌, refl, [], codes}
use Rattle.std.specs.Prelude.{Some, None}
use Rattle.std.specs.Fmt.{digits}
use Rattle.stream_model.specs.declared.labels.Side.TheVariants.{Left, Right}
use Rattle.stream_model.specs.declared.labels.Tree.TheVariants.{Root, Product, Reduced, Joined, Beside}
use Rattle.stream_model.specs.declared.labels.Attr.TheVariants.{Rank, Value, SideValue, Literal}
use Rattle.label_reading.specs.Words.{label_in, label_of}

of_the_root : label_in (codes "root") ≡ Some (label_of Root (Literal 0))
of_the_root = refl

of_a_scan : label_in (codes "product 0 1 255 rank 7") ≡ Some (label_of (Product 0 1 255) (Rank 7))
unfolding digits
of_a_scan = refl

of_a_side : label_in (codes "beside 2 right 3 value") ≡ Some (label_of (Beside 2 Right 3) Value)
unfolding digits
of_a_side = refl

of_a_join : label_in (codes "joined 2 3 value left") ≡ Some (label_of (Joined 2 3) (SideValue Left))
unfolding digits
of_a_join = refl

of_a_constant : label_in (codes "reduced 0 1 9 2 literal 18446744073709551615") ≡ Some (label_of (Reduced 0 1 9 2) (Literal 18446744073709551615))
unfolding digits
of_a_constant = refl

-- numbers past a byte and past 64 bits
past_a_byte : label_in (codes "joined 256 0 value") ≡ None
past_a_byte = refl

past_64_bits : label_in (codes "joined 0 0 literal 18446744073709551616") ≡ None
past_64_bits = refl

-- nothing but single spaces and decimals without leading zeros
leading_zero : label_in (codes "joined 02 0 value") ≡ None
unfolding digits
leading_zero = refl

two_spaces : label_in (codes "joined  2 0 value") ≡ None
unfolding digits
two_spaces = refl

space_at_the_end : label_in (codes "joined 2 0 value ") ≡ None
unfolding digits
space_at_the_end = refl

word_at_the_end : label_in (codes "joined 2 0 value whole") ≡ None
unfolding digits
word_at_the_end = refl

-- a number where a side has to stand, and a side where a number has to
number_for_side : label_in (codes "joined 2 0 present 0") ≡ None
unfolding digits
number_for_side = refl

side_for_number : label_in (codes "joined right 0 value") ≡ None
unfolding digits
side_for_number = refl

attribute_of_the_root : label_in (codes "root literal 0") ≡ None
attribute_of_the_root = refl

no_attribute : label_in (codes "joined 2 0") ≡ None
no_attribute = refl

nothing : label_in [] ≡ None
nothing = refl
