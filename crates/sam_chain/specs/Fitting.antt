-- Entries that a tensor may have.
use Rattle.std.specs.Prelude.{◌≡◌, ◌*◌, true, List, [], ◌∷◌, length}
use Rattle.std.specs.List.{list_all}
use Rattle.sam_model.specs.declared.tensors.Tensor.{Tensor}
use Rattle.sam_model.specs.declared.tensors.Entries.{Entries}
use Rattle.sam_model.specs.Lists.{within}
use Rattle.sam_model.specs.Tensors.{entry_list}

-- as many coordinates for each value as the tensor has dimensions, each below its own
pub record Fits (t : Tensor) (e : Entries) : Type 0 where
  pub arity : e.arity ≡ length t.dims
  pub whole : length e.coords ≡ e.arity * length e.values
  pub in_range : list_all (λ entry. within t.dims entry.0) (entry_list e.arity e.coords e.values) ≡ true

-- entries for each of the tensors, in order
abbrev pub EachFits : List Tensor → List Entries → Type 0
EachFits [] [] = Unit {0}
EachFits [] (e ∷ es) = ⊥
EachFits (t ∷ ts) [] = ⊥
EachFits (t ∷ ts) (e ∷ es) = Fits t e × EachFits ts es
