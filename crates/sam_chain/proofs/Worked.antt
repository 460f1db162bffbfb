-- Entries of results, and the entries of the steps of chains, evaluated.
use Rattle.std.proofs.Common.{◌≡◌, ℕ, false, List, [], ◌∷◌, ◌++◌, refl}
use Rattle.sam_model.specs.declared.tensors.Format.{Format}
use Rattle.sam_model.specs.declared.tensors.Format.TheVariants.{Compressed}
use Rattle.sam_model.specs.declared.tensors.Tensor.{Tensor}
use Rattle.sam_model.specs.declared.tensors.Entries.{Entries}
use Rattle.sam_model.specs.declared.program.Program.{Program}
use Rattle.sam_model.specs.Chains.{entries_as}
use Rattle.sam_model.specs.Trees.{ExprTree, Access, Times, Plus, Minus}
use Rattle.sam_chain.specs.Running.{entries_at}

abbrev tensor : List ℕ → List Format → List ℕ → Tensor
tensor dims formats order = record { name = []; dims = dims; formats = formats; order = order; file = [] }

abbrev vector : Tensor
vector = tensor (4 ∷ []) (Compressed ∷ []) (0 ∷ [])

abbrev entries : ℕ → List ℕ → List ℕ → Entries
entries arity coords values = record { arity = arity; coords = coords; values = values }

-- ---- what a matrix with its columns outermost lists, by modes: rows 0 and 2 in column 1, and row 0 in column 3 with the value 0

abbrev by_columns : Tensor
by_columns = tensor (3 ∷ 4 ∷ []) (Compressed ∷ Compressed ∷ []) (1 ∷ 0 ∷ [])

matrix-entries :
    entries_as by_columns ((1 ∷ 0 ∷ [], 7) ∷ (1 ∷ 2 ∷ [], 5) ∷ (3 ∷ 0 ∷ [], 0) ∷ []) ≡ entries 2 (0 ∷ 1 ∷ 2 ∷ 1 ∷ 0 ∷ 3 ∷ []) (7 ∷ 5 ∷ 0 ∷ [])
matrix-entries = refl

number-entries : entries_as (tensor [] [] []) (([], 35) ∷ []) ≡ entries 0 [] (35 ∷ [])
number-entries = refl

-- ---- chains over b = (2, 0, 5, 0) and c = (0, 0, 7, 1)

abbrev step : List Tensor → Tensor → List ℕ → ExprTree → List ℕ → Program
step tensors result left body implied = record {
  tensors = tensors;
  result = result;
  left = left;
  terms = [];
  tops = record { minus = false; body = body; implied = implied } ∷ [];
  var_names = [];
  var_sizes = 4 ∷ [];
}

abbrev files : List Entries
files = entries 1 (0 ∷ 2 ∷ []) (2 ∷ 5 ∷ []) ∷ entries 1 (2 ∷ 3 ∷ []) (7 ∷ 1 ∷ []) ∷ []

-- y(i) = b(i) + c(i), then x(i) = y(i) * b(i)
abbrev sums : ExprTree → List Program
sums body =
    step (vector ∷ vector ∷ []) vector (0 ∷ []) body []
    ∷ step (vector ∷ vector ∷ vector ∷ []) vector (0 ∷ []) (Times (Access 2 (0 ∷ [])) (Access 0 (0 ∷ []))) [] ∷ []

first-step : entries_at (sums (Plus (Access 0 (0 ∷ [])) (Access 1 (0 ∷ [])))) files 0 ≡ files
first-step = refl

second-step : entries_at (sums (Plus (Access 0 (0 ∷ [])) (Access 1 (0 ∷ [])))) files 1 ≡ files ++ entries 1 (0 ∷ 2 ∷ 3 ∷ []) (2 ∷ 12 ∷ 1 ∷ []) ∷ []
second-step = refl

-- with y(i) = b(i) - b(i): what cancels stays stored
cancelled : entries_at (sums (Minus (Access 0 (0 ∷ [])) (Access 0 (0 ∷ [])))) files 1 ≡ files ++ entries 1 (0 ∷ 2 ∷ []) (0 ∷ 0 ∷ []) ∷ []
cancelled = refl

-- y = b(i) * c(i), which is no tensor of the step behind it
abbrev number_first : List Program
number_first =
    step (vector ∷ vector ∷ []) (tensor [] [] []) [] (Times (Access 0 (0 ∷ [])) (Access 1 (0 ∷ []))) (0 ∷ [])
    ∷ step (vector ∷ vector ∷ []) vector (0 ∷ []) (Access 1 (0 ∷ [])) [] ∷ []

no-tensor : entries_at number_first files 1 ≡ files
no-tensor = refl

behind-both : entries_at number_first files 2 ≡ files ++ entries 1 (2 ∷ 3 ∷ []) (7 ∷ 1 ∷ []) ∷ []
behind-both = refl
