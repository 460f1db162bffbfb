-- What the top-level terms of an accepted program say of its terms.
use Rattle.std.specs.Prelude.{◌≡◌, ℕ, true, false, List, length}
use Rattle.std.specs.List.{list_all}
use mathlib.Core.List.{map}
use Rattle.sam_model.specs.declared.tensors.Entries.{Entries}
use Rattle.sam_model.specs.declared.program.Program.{Program}
use Rattle.sam_model.specs.Denote.{den, pat, result_entries}
use Rattle.sam_model.specs.Program.{accepted}
use Rattle.sam_model.specs.Pattern.{closed}
use Rattle.sam_model.specs.Statement.{denoted_at, found_at, found_entries, statement_entries}
use Rattle.expand.specs.Plain.{is_product, term_of}

-- The terms denote what the statement denotes as it is written, and have in their pattern what is found of it, at all
-- coordinates of the result.
abbrev pub TermsDenote : Type 0
TermsDenote =
    (p : Program) (es : List Entries) (x : List ℕ) → accepted p ≡ true → length x ≡ length p.left
    → (den p es x ≡ denoted_at p es x) × (pat p es x ≡ found_at p es x)

-- So the entries of the result by its terms are those that are found of the statement as it is written.
abbrev pub TermsTell : Type 0
TermsTell = (p : Program) (es : List Entries) → accepted p ≡ true → result_entries p es ≡ found_entries p es

-- Where nothing is found the statement denotes 0.
abbrev pub NothingIsZero : Type 0
NothingIsZero = (p : Program) (es : List Entries) (x : List ℕ) → found_at p es x ≡ false → denoted_at p es x ≡ 0

-- So what is found, closed over the result's dense levels, are the coordinates of the pattern with what the statement denotes.
abbrev pub ClosedTells : Type 0
ClosedTells = (p : Program) (es : List Entries) → accepted p ≡ true → closed p.result (found_entries p es) ≡ statement_entries p es

-- Where the top-level terms are products of accesses and literals, these are the terms.
abbrev pub ProductsStay : Type 0
ProductsStay = (p : Program) → accepted p ≡ true → list_all (λ t. is_product t.body) p.tops ≡ true → p.terms ≡ map term_of p.tops
