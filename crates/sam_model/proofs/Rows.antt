-- Programs and entries of the worked rows, in few words.
use Rattle.std.proofs.Common.{ℕ, true, false, List, [], ◌∷◌}
use mathlib.Core.List.{map}
use Rattle.sam_model.specs.declared.tensors.Format.{Format}
use Rattle.sam_model.specs.declared.tensors.Format.TheVariants.{Compressed}
use Rattle.sam_model.specs.declared.tensors.Tensor.{Tensor}
use Rattle.sam_model.specs.declared.tensors.Entries.{Entries}
use Rattle.sam_model.specs.declared.program.Factor.{Factor}
use Rattle.sam_model.specs.declared.program.Factor.TheVariants.{Access}
use Rattle.sam_model.specs.declared.program.Term.{Term}
use Rattle.sam_model.specs.declared.program.Program.{Program}

abbrev pub tensor : List ℕ → List Format → List ℕ → Tensor
tensor dims formats order = record { name = []; dims = dims; formats = formats; order = order; file = [] }

-- a compressed vector
abbrev pub vector : ℕ → Tensor
vector n = tensor (n ∷ []) (Compressed ∷ []) (0 ∷ [])

abbrev pub entries : ℕ → List ℕ → List ℕ → Entries
entries arity coords values = record { arity = arity; coords = coords; values = values }

abbrev pub plus : List Factor → Term
plus factors = record { minus = false; factors = factors }

abbrev pub minus_term : List Factor → Term
minus_term factors = record { minus = true; factors = factors }

abbrev pub program : List Tensor → Tensor → List ℕ → List Term → List ℕ → Program
program tensors result left terms sizes = record {
  tensors = tensors;
  result = result;
  left = left;
  terms = terms;
  tops = [];
  var_names = map (λ _. []) sizes;
  var_sizes = sizes;
}

-- x(i) = b(i) .. c(i), over vectors of 4
abbrev pub two_vectors : List Term → Program
two_vectors terms = program (vector 4 ∷ vector 4 ∷ []) (vector 4) (0 ∷ []) terms (4 ∷ [])

abbrev pub b_of_i : Factor
b_of_i = Access 0 (0 ∷ [])

abbrev pub c_of_i : Factor
c_of_i = Access 1 (0 ∷ [])
