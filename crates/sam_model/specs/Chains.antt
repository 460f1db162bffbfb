-- Programs of several statements, which are computed one after another: each reads the declared tensors and the results of
-- those before it.
use Rattle.std.specs.Prelude.{◌≡◌, ℕ, true, cond, List, [], ◌∷◌, ◌++◌, length, eqb}
use Rattle.std.specs.List.{flat_map}
use mathlib.Core.List.{map}
use Rattle.sam_model.specs.declared.tensors.Tensor.{Tensor}
use Rattle.sam_model.specs.declared.tensors.Entries.{Entries}
use Rattle.sam_model.specs.declared.program.Program.{Program}
use Rattle.sam_model.specs.ResultText.{by_modes}
use Rattle.sam_model.specs.Program.{accepted}
use Rattle.sam_model.specs.Statement.{statement_entries, statement_text}

-- what a result lists, as the entries of a tensor
abbrev pub entries_as : Tensor → List (List ℕ × ℕ) → Entries
entries_as t listed = record {
  arity = length t.order;
  coords = flat_map (λ entry. by_modes t.order entry.0) listed;
  values = map (λ entry. entry.1) listed;
}

-- with one more for this result, where it has dimensions
abbrev pub and_result : {A : Type 0} → Tensor → List A → A → List A
and_result t xs x = cond (eqb (length t.dims) 0) xs (xs ++ x ∷ [])

-- each step is accepted, and has these tensors and the earlier results that have dimensions
abbrev pub StepsFollow : List Tensor → List Program → Type 0
StepsFollow tensors [] = Unit {0}
StepsFollow tensors (p ∷ steps) =
    (p.tensors ≡ tensors) × ((accepted p ≡ true) × StepsFollow (and_result p.result tensors p.result) steps)

-- the tensors that the first step reads are those that are declared
abbrev pub declared_tensors : List Program → List Tensor
declared_tensors [] = []
declared_tensors (p ∷ steps) = p.tensors

-- these steps make a chain
abbrev pub AreChained : List Program → Type 0
AreChained steps = StepsFollow (declared_tensors steps) steps

-- the entries of the tensors after a step
abbrev pub entries_after : Program → List Entries → List Entries
entries_after p es = and_result p.result es (entries_as p.result (statement_entries p es))

-- what is printed of the last step's result
abbrev pub chain_text : List Program → List Entries → List ℕ
chain_text [] es = []
chain_text (p ∷ []) es = statement_text p es
chain_text (p ∷ q ∷ steps) es = chain_text (q ∷ steps) (entries_after p es)
