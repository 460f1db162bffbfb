-- What is kept when a statement is expanded: what it denotes, and where it is found.
use Rattle.std.specs.Prelude.{◌≡◌, ℕ, true, List, length, nat_le}
use Rattle.std.specs.List.{list_all}
use Rattle.sam_model.specs.declared.tensors.Entries.{Entries}
use Rattle.sam_model.specs.declared.program.Term.{Term}
use Rattle.sam_model.specs.declared.program.Program.{Program}
use Rattle.sam_model.specs.Trees.{TopTree}
use Rattle.sam_model.specs.Lists.{items_at}
use Rattle.sam_model.specs.Accepted.{is_order, ascending, term_has}
use Rattle.sam_model.specs.Denote.{den, pat}
use Rattle.sam_model.specs.Expressions.{denoted, found}
use Rattle.sam_model.specs.Scopes.{are_in_range, top_fits}

-- A program's left side and these top-level terms fit together: every size is at least 1, the variables of the left stand in
-- loop order in storage order, each top-level term fits the left, and each term of the program has every variable of it.
pub record FitTogether (p : Program) (tops : List TopTree) : Type 0 where
  pub sizes : list_all (nat_le 1) p.var_sizes ≡ true
  pub order : is_order (length p.left) p.result.order ≡ true
  pub left_in_range : are_in_range (length p.var_sizes) p.left ≡ true
  pub left_ascends : ascending (items_at p.left p.result.order) ≡ true
  pub each_fits : list_all (top_fits (length p.var_sizes) p.left) tops ≡ true
  pub complete : list_all (λ t. list_all (term_has t) p.left) p.terms ≡ true

-- A program with these terms denotes what the top-level terms denote as they are written, and has in its pattern what is
-- found of them, at all coordinates of its result.
abbrev pub KeepsMeaning : List ℕ → List TopTree → List Term → Type 0
KeepsMeaning sizes tops terms =
    (p : Program) (es : List Entries) (x : List ℕ) → p.var_sizes ≡ sizes → p.terms ≡ terms → FitTogether p tops → length x ≡ length p.left
    → (den p es x ≡ denoted p.tensors es sizes (items_at p.left p.result.order) tops x)
    × (pat p es x ≡ found p.tensors es sizes (items_at p.left p.result.order) tops x)
