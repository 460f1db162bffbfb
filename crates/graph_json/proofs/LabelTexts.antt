-- The text of a label is ASCII.
use Rattle.std.proofs.Common.{◌≡◌, ◌<◌, ◌/◌, ◌%◌, ◌==◌, ℕ, zero, suc, Bool, true, false, List, [], ◌∷◌, ◌++◌, codes, refl, arith, cond}
use Rattle.std.proofs.lemmas.Bool.Decides.{nat_tests}
use Rattle.std.specs.Prelude.{decimal, IsUtf8}
use Rattle.std.specs.Str.{IsAscii}
use Rattle.std.specs.Fmt.{digit_glyph, digits_onto, digits}
use Rattle.std.proofs.lemmas.Str.{IsAscii-append, IsUtf8-from_ascii}
use Rattle.std.proofs.lemmas.Str.Ascii.{IsAscii-nil, IsAscii-cons}
use Rattle.std.specs.List.{list_all}
use Rattle.std.specs.Prelude.{nat_lt}
use Rattle.std.proofs.lemmas.Bool.{and_parts, ltb-true}
use Rattle.stream_model.specs.declared.labels.Side.{Side}
use Rattle.stream_model.specs.declared.labels.Side.TheVariants.{Left, Right}
use Rattle.stream_model.specs.declared.labels.Tree.{Tree}
use Rattle.stream_model.specs.declared.labels.Tree.TheVariants.{Root, Product, Reduced, Joined, Beside, Across, Under, UnderReduced, UnderJoined}
use Rattle.stream_model.specs.declared.labels.Attr.{Attr}
use Rattle.stream_model.specs.declared.labels.Attr.TheVariants.{Coordinate, Rank, FactorValue, Partial, Whole, Value, Present, SideValue, Literal}
use Rattle.stream_model.specs.declared.labels.Label.{Label}
use Rattle.stream_model.specs.Texts.{side_text, spaced, tree_text, attr_text, told_text, text_of_label}

-- ---- decimals

glyph_ascii : (n : ℕ) → digit_glyph false (n % 10) < 128
glyph_ascii n = grind (arith, nat_tests)

digits_ascii : (k n : ℕ) (acc : List ℕ) → IsAscii acc → IsAscii (digits_onto k 10 false n acc)
digits_ascii zero n acc h = h
digits_ascii (suc k) n acc h =
    let more = IsAscii-cons (digit_glyph false (n % 10)) acc (glyph_ascii n) h in
    by_case (n / 10 == 0) (digits_ascii k (n / 10) (digit_glyph false (n % 10) ∷ acc) more) more
  where
    by_case : (last : Bool) → IsAscii (digits_onto k 10 false (n / 10) (digit_glyph false (n % 10) ∷ acc)) → IsAscii (digit_glyph false (n % 10) ∷ acc)
        → IsAscii (cond last (digit_glyph false (n % 10) ∷ acc) (digits_onto k 10 false (n / 10) (digit_glyph false (n % 10) ∷ acc)))
    by_case true further here = here
    by_case false further here = further

decimal_ascii : (n : ℕ) → IsAscii (decimal n)
unfolding digits
decimal_ascii n = digits_ascii 64 n [] IsAscii-nil

spaced_ascii : (ns : List ℕ) → IsAscii (spaced ns)
spaced_ascii [] = IsAscii-nil
spaced_ascii (n ∷ ns) = IsAscii-cons 32 _ (omega arith) (IsAscii-append (decimal n) (spaced ns) (decimal_ascii n) (spaced_ascii ns))

-- ---- words

ascii_by_test : (bs : List ℕ) → list_all (λ b. nat_lt b 128) bs ≡ true → IsAscii bs
ascii_by_test [] h = IsAscii-nil
ascii_by_test (b ∷ bs) h = let parts = and_parts _ _ h in IsAscii-cons b bs (ltb-true b 128 parts.0) (ascii_by_test bs parts.1)

-- a word, and numbers
numbered : (word ns : List ℕ) → list_all (λ b. nat_lt b 128) word ≡ true → IsAscii (word ++ spaced ns)
numbered word ns h = IsAscii-append word (spaced ns) (ascii_by_test word h) (spaced_ascii ns)

side_ascii : (side : Side) → IsAscii (side_text side)
side_ascii Left = ascii_by_test (codes "left") refl
side_ascii Right = ascii_by_test (codes "right") refl

-- a word, and a side
sided : (word : List ℕ) (side : Side) → list_all (λ b. nat_lt b 128) word ≡ true → IsAscii (word ++ side_text side)
sided word side h = IsAscii-append word (side_text side) (ascii_by_test word h) (side_ascii side)

tree_ascii : (tree : Tree) → IsAscii (tree_text tree)
tree_ascii Root = ascii_by_test (codes "root") refl
tree_ascii (Product term level mask) = numbered (codes "product") (term ∷ level ∷ mask ∷ []) refl
tree_ascii (Reduced term gone prune depth) = numbered (codes "reduced") (term ∷ gone ∷ prune ∷ depth ∷ []) refl
tree_ascii (Joined last depth) = numbered (codes "joined") (last ∷ depth ∷ []) refl
tree_ascii (Beside last side depth) =
    let side_on = side_text side ++ spaced (depth ∷ []) in
    let side_depth = IsAscii-append (side_text side) (spaced (depth ∷ [])) (side_ascii side) (spaced_ascii (depth ∷ [])) in
    IsAscii-append (codes "beside") (spaced (last ∷ []) ++ (32 ∷ side_on)) (ascii_by_test (codes "beside") refl)
    (IsAscii-append (spaced (last ∷ [])) (32 ∷ side_on) (spaced_ascii (last ∷ [])) (IsAscii-cons 32 side_on (omega arith) side_depth))
tree_ascii (Across upto term depth) = numbered (codes "across") (upto ∷ term ∷ depth ∷ []) refl
tree_ascii (Under term level mask) = numbered (codes "under") (term ∷ level ∷ mask ∷ []) refl
tree_ascii (UnderReduced term gone depth) = numbered (codes "underreduced") (term ∷ gone ∷ depth ∷ []) refl
tree_ascii (UnderJoined last prune depth) = numbered (codes "underjoined") (last ∷ prune ∷ depth ∷ []) refl

attr_ascii : (attr : Attr) → IsAscii (attr_text attr)
attr_ascii Coordinate = ascii_by_test (codes "coordinate") refl
attr_ascii (Rank f) = numbered (codes "rank") (f ∷ []) refl
attr_ascii (FactorValue f) = numbered (codes "factor") (f ∷ []) refl
attr_ascii (Partial k) = numbered (codes "partial") (k ∷ []) refl
attr_ascii Whole = ascii_by_test (codes "whole") refl
attr_ascii Value = ascii_by_test (codes "value") refl
attr_ascii (Present side) = sided (codes "present ") side refl
attr_ascii (SideValue side) = sided (codes "value ") side refl
attr_ascii (Literal n) = numbered (codes "literal") (n ∷ []) refl

-- a tree's words, and those of an attribute
both_ascii : (tree : Tree) (attr : Attr) → IsAscii (tree_text tree ++ (32 ∷ attr_text attr))
both_ascii tree attr = IsAscii-append (tree_text tree) (32 ∷ attr_text attr) (tree_ascii tree) (IsAscii-cons 32 (attr_text attr) (omega arith) (attr_ascii attr))

told_ascii : (tree : Tree) (attr : Attr) → IsAscii (told_text tree attr)
told_ascii Root attr = tree_ascii Root
told_ascii (Product term level mask) attr = both_ascii (Product term level mask) attr
told_ascii (Reduced term gone prune depth) attr = both_ascii (Reduced term gone prune depth) attr
told_ascii (Joined last depth) attr = both_ascii (Joined last depth) attr
told_ascii (Beside last side depth) attr = both_ascii (Beside last side depth) attr
told_ascii (Across upto term depth) attr = both_ascii (Across upto term depth) attr
told_ascii (Under term level mask) attr = both_ascii (Under term level mask) attr
told_ascii (UnderReduced term gone depth) attr = both_ascii (UnderReduced term gone depth) attr
told_ascii (UnderJoined last prune depth) attr = both_ascii (UnderJoined last prune depth) attr

pub text_of_label-utf8 : (label : Label) → IsUtf8 (text_of_label label)
text_of_label-utf8 label = IsUtf8-from_ascii (text_of_label label) (told_ascii label.tree label.attr)
