-- The label that a text spells: its words give a label, and the text has to be the text of that label.
use Rattle.std.specs.Prelude.{ℕ, ◌==◌, ◌&&◌, ◌^◌, List, [], ◌∷◌, Bool, nat_lt, codes, Option, Some, None, option_and_then, option_map, if◌then◌else◌}
use Rattle.std.specs.Str.{bytes_eq}
use Rattle.sam_text.specs.Words.{words}
use Rattle.sam_text.specs.Numbers.{decimal, is_decimal}
use Rattle.stream_model.specs.declared.labels.Side.{Side}
use Rattle.stream_model.specs.declared.labels.Side.TheVariants.{Left, Right}
use Rattle.stream_model.specs.declared.labels.Tree.{Tree}
use Rattle.stream_model.specs.declared.labels.Tree.TheVariants.{Root, Product, Reduced, Joined, Beside, Across, Under, UnderReduced, UnderJoined}
use Rattle.stream_model.specs.declared.labels.Attr.{Attr}
use Rattle.stream_model.specs.declared.labels.Attr.TheVariants.{Coordinate, Rank, FactorValue, Partial, Whole, Value, Present, SideValue, Literal}
use Rattle.stream_model.specs.declared.labels.Label.{Label}
use Rattle.stream_model.specs.Texts.{text_of_label}

abbrev pub if_holds : {A : Type 0} → Bool → A → Option A
if_holds holds x = if holds then Some x else None

-- ---- arguments

-- what an argument stands for: a side is told by 0 or 1, a decimal by its number
abbrev pub argument_in : List ℕ → Option ℕ
argument_in word =
    if bytes_eq word (codes "left") then Some 0
    else if bytes_eq word (codes "right") then Some 1
    else if_holds (is_decimal word && nat_lt (decimal word) (2 ^ 64)) (decimal word)

abbrev pub with_argument : Option ℕ → List (List ℕ) → List ℕ × List (List ℕ) → List ℕ × List (List ℕ)
with_argument None here behind = ([], here)
with_argument (Some n) here behind = (n ∷ behind.0, behind.1)

-- the arguments at the beginning of some words, and the words behind them
abbrev pub arguments_in : List (List ℕ) → List ℕ × List (List ℕ)
arguments_in [] = ([], [])
arguments_in (word ∷ more) = with_argument (argument_in word) (word ∷ more) (arguments_in more)

-- so many numbers of a byte

abbrev pub one : List ℕ → Option ℕ
one (a ∷ []) = if_holds (nat_lt a 256) a
one _ = None

abbrev pub two : List ℕ → Option (ℕ × ℕ)
two (a ∷ b ∷ []) = if_holds (nat_lt a 256 && nat_lt b 256) (a, b)
two _ = None

abbrev pub three : List ℕ → Option (ℕ × ℕ × ℕ)
three (a ∷ b ∷ c ∷ []) = if_holds (nat_lt a 256 && nat_lt b 256 && nat_lt c 256) (a, b, c)
three _ = None

abbrev pub four : List ℕ → Option (ℕ × ℕ × ℕ × ℕ)
four (a ∷ b ∷ c ∷ d ∷ []) = if_holds (nat_lt a 256 && nat_lt b 256 && nat_lt c 256 && nat_lt d 256) (a, b, c, d)
four _ = None

-- ---- words with their arguments

abbrev pub side_with : ℕ → Side
side_with n = if n == 0 then Left else Right

-- a tree below the root
abbrev pub tree_with : List ℕ → List ℕ → Option Tree
tree_with word ns =
    if bytes_eq word (codes "product") then option_map (λ t. Product t.0 t.1 t.2) (three ns)
    else if bytes_eq word (codes "reduced") then option_map (λ t. Reduced t.0 t.1 t.2 t.3) (four ns)
    else if bytes_eq word (codes "joined") then option_map (λ t. Joined t.0 t.1) (two ns)
    else if bytes_eq word (codes "beside") then option_map (λ t. Beside t.0 (side_with t.1) t.2) (three ns)
    else if bytes_eq word (codes "across") then option_map (λ t. Across t.0 t.1 t.2) (three ns)
    else if bytes_eq word (codes "under") then option_map (λ t. Under t.0 t.1 t.2) (three ns)
    else if bytes_eq word (codes "underreduced") then option_map (λ t. UnderReduced t.0 t.1 t.2) (three ns)
    else if bytes_eq word (codes "underjoined") then option_map (λ t. UnderJoined t.0 t.1 t.2) (three ns)
    else None

abbrev pub value_with : List ℕ → Option Attr
value_with [] = Some Value
value_with (n ∷ ns) = option_map (λ side. SideValue (side_with side)) (one (n ∷ ns))

abbrev pub literal_with : List ℕ → Option Attr
literal_with (n ∷ []) = Some (Literal n)
literal_with _ = None

abbrev pub attr_with : List ℕ → List ℕ → Option Attr
attr_with word ns =
    if bytes_eq word (codes "coordinate") then Some Coordinate
    else if bytes_eq word (codes "rank") then option_map Rank (one ns)
    else if bytes_eq word (codes "factor") then option_map FactorValue (one ns)
    else if bytes_eq word (codes "partial") then option_map Partial (one ns)
    else if bytes_eq word (codes "whole") then Some Whole
    else if bytes_eq word (codes "value") then value_with ns
    else if bytes_eq word (codes "present") then option_map (λ side. Present (side_with side)) (one ns)
    else if bytes_eq word (codes "literal") then literal_with ns
    else None

-- ---- labels

abbrev pub label_of : Tree → Attr → Label
label_of tree attr = record { tree = tree; attr = attr }

abbrev pub attr_by : List (List ℕ) → Option Attr
attr_by [] = None
attr_by (word ∷ more) = attr_with word (arguments_in more).0

-- Of a tree's word and an attribute's word, each with the arguments behind it. Which words stand behind, and whether an
-- argument is a side, isn't asked here.
abbrev pub label_by : List (List ℕ) → Option Label
label_by [] = None
label_by (word ∷ more) =
    if bytes_eq word (codes "root") then Some (label_of Root (Literal 0))
    else option_and_then (λ tree. option_map (label_of tree) (attr_by (arguments_in more).1)) (tree_with word (arguments_in more).0)

-- the text has to be spelled just so
abbrev pub label_in : List ℕ → Option Label
label_in text = option_and_then (λ l. if_holds (bytes_eq (text_of_label l) text) l) (label_by (words text))
