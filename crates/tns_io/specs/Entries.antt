-- The entries of a tensor file, or its first bad line.
use Rattle.std.specs.Prelude.{ℕ, suc, Bool, true, false, not, List, [], ◌∷◌, Result, Ok, Err, nat_lt}
use Rattle.std.specs.List.{filter, enumerate_from}
use Rattle.sam_base.specs.declared.faults.TnsKind.{TnsKind}
use Rattle.sam_base.specs.declared.faults.TnsKind.TheVariants.{TooManyEntries}
use Rattle.sam_base.specs.declared.TheConstants.{ENTRIES_MOST}
use Rattle.sam_text.specs.Lines.{lines}
use Rattle.sam_text.specs.Words.{words, is_skipped}
use Rattle.tns_io.specs.Fields.{Entry, line_entry}

-- the lines with entries, with their numbers from this one on
abbrev pub entry_lines : ℕ → List (List ℕ) → List (ℕ × List ℕ)
entry_lines n ls = filter (λ line. not (is_skipped (words line.1))) (enumerate_from n ls)

-- an entry that is right, where there is room for one more
abbrev pub limited : Bool → Result Entry TnsKind → Result Entry TnsKind
limited room (Err kind) = Err kind
limited true (Ok entry) = Ok entry
limited false (Ok entry) = Err TooManyEntries

-- the entry of a line, after so many others
abbrev pub next_entry : List ℕ → ℕ → List ℕ → Result Entry TnsKind
next_entry sizes count line = limited (nat_lt count ENTRIES_MOST) (line_entry sizes (words line))

-- an entry before those of later lines: what is wrong with it comes first, with the number of its line
abbrev pub with_entry : ℕ → Result Entry TnsKind → Result (List Entry) (TnsKind × ℕ) → Result (List Entry) (TnsKind × ℕ)
with_entry n (Err kind) rest = Err (kind, n)
with_entry n (Ok entry) (Err fault) = Err fault
with_entry n (Ok entry) (Ok entries) = Ok (entry ∷ entries)

-- the entries of such lines, after so many others
abbrev pub entries_of : List ℕ → ℕ → List (ℕ × List ℕ) → Result (List Entry) (TnsKind × ℕ)
entries_of sizes count [] = Ok []
entries_of sizes count (line ∷ more) =
    with_entry line.0 (next_entry sizes count line.1) (entries_of sizes (suc count) more)

-- what a text is read as, for modes of these sizes: its entries in order, or the kind and the number of the first bad line
abbrev pub tns_entries : List ℕ → List ℕ → Result (List Entry) (TnsKind × ℕ)
tns_entries sizes text = entries_of sizes 0 (entry_lines 1 (lines text))
