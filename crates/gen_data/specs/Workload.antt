-- The generated workload: a program over two square matrices, and the entries of both.
use Rattle.std.specs.Prelude.{◌≡◌, ◌≤◌, ◌+◌, ◌*◌, ◌%◌, ℕ, true, false, List, [], ◌∷◌, length, codes}
use Rattle.std.specs.List.{flat_map, list_all}
use mathlib.Core.List.{map}
use Rattle.sam_base.specs.declared.TheConstants.{POSITIONS_MOST}
use Rattle.sam_model.specs.declared.tensors.Format.TheVariants.{Dense, Compressed}
use Rattle.sam_model.specs.declared.tensors.Tensor.{Tensor}
use Rattle.sam_model.specs.declared.tensors.Entries.{Entries}
use Rattle.sam_model.specs.declared.program.Factor.TheVariants.{Access}
use Rattle.sam_model.specs.declared.program.Term.{Term}
use Rattle.sam_model.specs.declared.program.Program.{Program}
use Rattle.sam_model.specs.Trees.{TopTree}
use Rattle.sam_model.specs.Trees as tree
use Rattle.sam_model.specs.Accepted.{is_well_formed}
use Rattle.sam_model.specs.Lists.{below, within}
use Rattle.sam_model.specs.Tensors.{entry_list, stored_as, stored_prefixes}
use Rattle.gen_data.specs.declared.matrices.Matrix.{Matrix}
use Rattle.gen_data.specs.declared.matrices.Matrix.TheVariants.{B, C}

-- ---- the program

-- `tensor NAME nxn dc 1,2 NAME`
abbrev pub square : List ℕ → ℕ → Tensor
square name n = record { name = name; dims = n ∷ n ∷ []; formats = Dense ∷ Compressed ∷ []; order = 0 ∷ 1 ∷ []; file = name }

-- `B(i,j) * C(i,j)`
abbrev pub elementwise : Term
elementwise = record { minus = false; factors = Access 0 (0 ∷ 1 ∷ []) ∷ Access 1 (0 ∷ 1 ∷ []) ∷ [] }

-- the same as an expression, where j is implied
abbrev pub elementwise_top : TopTree
elementwise_top = record { minus = false; body = tree.Times (tree.Access 0 (0 ∷ 1 ∷ [])) (tree.Access 1 (0 ∷ 1 ∷ [])); implied = 1 ∷ [] }

-- `x(i) = B(i,j) * C(i,j)`, looping over i and then j, with a compressed result
abbrev pub workload : ℕ → Program
workload n = record {
  tensors = square (codes "B") n ∷ square (codes "C") n ∷ [];
  result = record { name = codes "x"; dims = n ∷ []; formats = Compressed ∷ []; order = 0 ∷ []; file = [] };
  left = 0 ∷ [];
  terms = elementwise ∷ [];
  tops = elementwise_top ∷ [];
  var_names = codes "i" ∷ codes "j" ∷ [];
  var_sizes = n ∷ n ∷ [];
}

-- ---- the entries

-- entry s of row i, of n rows: its row and column, and its value
abbrev pub entry_of : Matrix → ℕ → ℕ → ℕ → List ℕ × ℕ
entry_of B n i s = (i ∷ (i * i + 7 * s) % n ∷ [], i + s + 1)
entry_of C n i s = (i ∷ (i * i + 5 * s) % n ∷ [], s + 1)

abbrev pub row_entries : Matrix → ℕ → ℕ → List (List ℕ × ℕ)
row_entries m n i = map (entry_of m n i) (below 4)

-- four entries a row, row by row; they may repeat a column
abbrev pub matrix_rows : Matrix → ℕ → List (List ℕ × ℕ)
matrix_rows m n = flat_map (row_entries m n) (below n)

abbrev pub matrix_entries : Matrix → ℕ → Entries
matrix_entries m n = record {
  arity = 2;
  coords = flat_map (λ entry. entry.0) (matrix_rows m n);
  values = map (λ entry. entry.1) (matrix_rows m n);
}

-- in the order of the program's tensors
abbrev pub workload_entries : ℕ → List Entries
workload_entries n = matrix_entries B n ∷ matrix_entries C n ∷ []

-- ---- what storing a tensor asks of its entries

-- they are the tensor's entries, and of no length more prefixes are stored than may be
pub record MayBeStored (t : Tensor) (e : Entries) : Type 0 where
  pub well_formed : is_well_formed t ≡ true
  pub arity : e.arity ≡ length t.dims
  pub whole : length e.coords ≡ e.arity * length e.values
  pub inside : list_all (λ entry. within t.dims entry.0) (entry_list e.arity e.coords e.values) ≡ true
  pub few : (k : ℕ) → k ≤ length t.order → length (stored_prefixes (stored_as t e) k) ≤ POSITIONS_MOST
