-- What a program's statement denotes as it is written, where it is found, which coordinates its result lists, and the text of that.
use Rattle.std.specs.Prelude.{ℕ, Bool, cond, List, length, eqb}
use Rattle.std.specs.List.{filter}
use mathlib.Core.List.{map}
use Rattle.sam_model.specs.declared.tensors.Entries.{Entries}
use Rattle.sam_model.specs.declared.program.Program.{Program}
use Rattle.sam_model.specs.Lists.{items_at, tuples}
use Rattle.sam_model.specs.Tensors.{is_stored}
use Rattle.sam_model.specs.Expressions.{denoted, found}
use Rattle.sam_model.specs.Pattern.{result_as}
use Rattle.sam_model.specs.ResultText.{listing_text}

module _ (p : Program) (es : List Entries) where
  -- the number at coordinates x of the result, in its storage order
  abbrev pub denoted_at : List ℕ → ℕ
  denoted_at x = denoted p.tensors es p.var_sizes (items_at p.left p.result.order) p.tops x

  -- whether some top-level term is there
  abbrev pub found_at : List ℕ → Bool
  found_at x = found p.tensors es p.var_sizes (items_at p.left p.result.order) p.tops x

  -- the coordinates at which it is found with their numbers, ascending in the result's storage order
  abbrev pub found_entries : List (List ℕ × ℕ)
  found_entries = map (λ x. (x, denoted_at x)) (filter found_at (tuples (items_at p.result.dims p.result.order)))

  -- x is in the pattern: with what is found as entries the result would store it
  abbrev pub in_pattern : List ℕ → Bool
  in_pattern x = cond (eqb (length p.result.formats) 0) (found_at x) (is_stored (result_as p.result found_entries) x)

  -- the coordinates of the pattern with their numbers, ascending in the result's storage order
  abbrev pub statement_entries : List (List ℕ × ℕ)
  statement_entries = map (λ x. (x, denoted_at x)) (filter in_pattern (tuples (items_at p.result.dims p.result.order)))

-- what is printed of a program's result
abbrev pub statement_text : Program → List Entries → List ℕ
statement_text p es = listing_text p.result.order (statement_entries p es)
