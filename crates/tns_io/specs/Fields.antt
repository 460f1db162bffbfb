-- The lines of a tensor file, each by itself.
use Rattle.std.specs.Prelude.{ℕ, suc, ◌==◌, List, [], ◌∷◌, Result, Ok, Err, length, if◌then◌else◌}
use Rattle.sam_base.specs.declared.faults.TnsKind.{TnsKind}
use Rattle.sam_base.specs.declared.faults.TnsKind.TheVariants.{FieldCount}
use Rattle.tns_io.specs.Values.{word_coordinate, word_value}

-- an entry: its coordinates from 0, by mode, and its value modulo 2^64
abbrev pub Entry : Type 0
Entry = List ℕ × ℕ

-- a first coordinate before the rest of an entry: what is wrong with it comes first
abbrev pub with_coordinate : Result ℕ TnsKind → Result Entry TnsKind → Result Entry TnsKind
with_coordinate (Err kind) rest = Err kind
with_coordinate (Ok c) (Err kind) = Err kind
with_coordinate (Ok c) (Ok entry) = Ok (c ∷ entry.0, entry.1)

-- the rest of an entry that has no more coordinates
abbrev pub with_value : Result ℕ TnsKind → Result Entry TnsKind
with_value (Ok v) = Ok ([], v)
with_value (Err kind) = Err kind

-- a word for each mode, by its size, and then the value
abbrev pub fields_of : List ℕ → List (List ℕ) → Result Entry TnsKind
fields_of sizes [] = Err FieldCount
fields_of [] (word ∷ more) = with_value (word_value word)
fields_of (size ∷ sizes) (word ∷ more) = with_coordinate (word_coordinate size word) (fields_of sizes more)

-- what a line is read as, by its words, which are to be one more than the modes
abbrev pub line_entry : List ℕ → List (List ℕ) → Result Entry TnsKind
line_entry sizes line_words = if length line_words == suc (length sizes) then fields_of sizes line_words else Err FieldCount
