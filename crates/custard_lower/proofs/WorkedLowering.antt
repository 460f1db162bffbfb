-- Drafts of small programs, by hand.
use Rattle.std.proofs.Common.{◌≡◌, ◌-◌, ◌^◌, ℕ, Bool, true, false, List, [], ◌∷◌, ◌++◌, refl}
use Rattle.std.specs.List.{list_all}
use mathlib.Core.List.{map}
use Rattle.sam_model.specs.declared.tensors.Format.TheVariants.{Compressed}
use Rattle.sam_model.specs.declared.tensors.Tensor.{Tensor}
use Rattle.sam_model.specs.declared.program.Factor.{Factor}
use Rattle.sam_model.specs.declared.program.Factor.TheVariants.{Access, Literal}
use Rattle.sam_model.specs.declared.program.Term.{Term}
use Rattle.sam_model.specs.declared.program.Program.{Program}
use Rattle.stream_model.specs.declared.labels.Label.{Label}
use Rattle.stream_model.specs.declared.labels.Side.{Side}
use Rattle.stream_model.specs.declared.labels.Side.TheVariants.{Left, Right}
use Rattle.stream_model.specs.declared.labels.Attr.{Attr}
use Rattle.stream_model.specs.declared.labels.Attr.TheVariants as attr
use Rattle.stream_model.specs.declared.labels.Tree.TheVariants as tree
use Rattle.graph.specs.declared.graphs.Kind.{Kind}
use Rattle.graph.specs.declared.graphs.Kind.TheVariants as kind
use Rattle.label_rules.specs.Rules.{allowed}
use Rattle.custard_lower.specs.declared.drafts.Made.{Made}
use Rattle.custard_lower.specs.Drafts.{label_at}
use Rattle.custard_lower.specs.Lowering.{program_draft}

-- ---- programs in few words

abbrev tensor : List ℕ → Tensor
tensor order = record { name = []; dims = map (λ _. 4) order; formats = map (λ _. Compressed) order; order = order; file = [] }

abbrev vector : Tensor
vector = tensor (0 ∷ [])

abbrev matrix : Tensor
matrix = tensor (0 ∷ 1 ∷ [])

abbrev term : List Factor → Term
term factors = record { minus = false; factors = factors }

abbrev difference : Factor → Factor → List Term
difference b c = term (b ∷ []) ∷ record { minus = true; factors = c ∷ [] } ∷ []

abbrev program : List Tensor → Tensor → List ℕ → List Term → List ℕ → Program
program tensors result left terms sizes = record {
  tensors = tensors;
  result = result;
  left = left;
  terms = terms;
  tops = [];
  var_names = map (λ _. []) sizes;
  var_sizes = sizes;
}

-- ---- blocks in few words

abbrev made : Kind → List ℕ → List Label → Made
made kind ins labels = record { kind = kind; ins = ins; labels = labels }

abbrev product_of : ℕ → ℕ → ℕ → Attr → Label
product_of term level mask attr = record { tree = tree.Product term level mask; attr = attr }

abbrev reduced_of : ℕ → ℕ → ℕ → ℕ → Attr → Label
reduced_of term gone prune depth attr = record { tree = tree.Reduced term gone prune depth; attr = attr }

-- of the first term
abbrev product : ℕ → ℕ → Attr → Label
product = product_of 0

abbrev reduced : ℕ → ℕ → ℕ → Attr → Label
reduced = reduced_of 0

abbrev joined : ℕ → ℕ → Attr → Label
joined last depth attr = record { tree = tree.Joined last depth; attr = attr }

abbrev beside : ℕ → Side → ℕ → Attr → Label
beside last side depth attr = record { tree = tree.Beside last side depth; attr = attr }

abbrev root : Made
root = made kind.Root [] (record { tree = tree.Root; attr = attr.Literal 0 } ∷ [])

-- ---- x(i) = b(i) * c(i)

abbrev two_vectors_program : Program
two_vectors_program = program (vector ∷ vector ∷ []) vector (0 ∷ []) (term (Access 0 (0 ∷ []) ∷ Access 1 (0 ∷ []) ∷ []) ∷ []) (4 ∷ [])

two_vectors :
    program_draft two_vectors_program
    ≡ root
    ∷ made (kind.Scan 0 1) (0 ∷ []) (product 1 1 attr.Coordinate ∷ product 1 1 (attr.Rank 0) ∷ [])
    ∷ made (kind.Scan 1 1) (0 ∷ []) (product 1 2 attr.Coordinate ∷ product 1 2 (attr.Rank 1) ∷ [])
    ∷ made (kind.Intersect 1 1) (1 ∷ 2 ∷ 3 ∷ 4 ∷ [])
    (product 1 3 attr.Coordinate ∷ product 1 3 (attr.Rank 0) ∷ product 1 3 (attr.Rank 1) ∷ [])
    ∷ made (kind.Array 0) (6 ∷ []) (product 1 3 (attr.FactorValue 0) ∷ [])
    ∷ made (kind.Array 1) (7 ∷ []) (product 1 3 (attr.FactorValue 1) ∷ [])
    ∷ made kind.Mul (8 ∷ 9 ∷ []) (product 1 3 (attr.Partial 2) ∷ [])
    ∷ made kind.DropValue (5 ∷ 10 ∷ []) (reduced 0 1 1 attr.Coordinate ∷ reduced 0 1 1 attr.Value ∷ [])
    ∷ made (kind.WriteLevel 1) (11 ∷ []) []
    ∷ made kind.WriteValue (12 ∷ []) []
    ∷ []
two_vectors = refl

-- ---- x(i) = B(i,j) * c(j)

abbrev matrix_vector_program : Program
matrix_vector_program =
    program (matrix ∷ vector ∷ []) vector (0 ∷ []) (term (Access 0 (0 ∷ 1 ∷ []) ∷ Access 1 (1 ∷ []) ∷ []) ∷ []) (4 ∷ 4 ∷ [])

matrix_vector :
    program_draft matrix_vector_program
    ≡ root
    ∷ made (kind.Scan 0 1) (0 ∷ []) (product 1 1 attr.Coordinate ∷ product 1 1 (attr.Rank 0) ∷ [])
    ∷ made kind.Repeat (1 ∷ 0 ∷ []) (product 1 1 (attr.Rank 1) ∷ [])
    ∷ made (kind.Scan 0 2) (2 ∷ []) (product 2 1 attr.Coordinate ∷ product 2 1 (attr.Rank 0) ∷ [])
    ∷ made (kind.Scan 1 1) (3 ∷ []) (product 2 2 attr.Coordinate ∷ product 2 2 (attr.Rank 1) ∷ [])
    ∷ made (kind.Intersect 1 1) (4 ∷ 5 ∷ 6 ∷ 7 ∷ [])
    (product 2 3 attr.Coordinate ∷ product 2 3 (attr.Rank 0) ∷ product 2 3 (attr.Rank 1) ∷ [])
    ∷ made (kind.Array 0) (9 ∷ []) (product 2 3 (attr.FactorValue 0) ∷ [])
    ∷ made (kind.Array 1) (10 ∷ []) (product 2 3 (attr.FactorValue 1) ∷ [])
    ∷ made kind.Mul (11 ∷ 12 ∷ []) (product 2 3 (attr.Partial 2) ∷ [])
    ∷ made kind.SumScalar (1 ∷ 13 ∷ []) (reduced 1 9 1 attr.Value ∷ [])
    ∷ made kind.DropValue (1 ∷ 14 ∷ []) (reduced 1 1 1 attr.Coordinate ∷ reduced 1 1 1 attr.Value ∷ [])
    ∷ made (kind.WriteLevel 1) (15 ∷ []) []
    ∷ made kind.WriteValue (16 ∷ []) []
    ∷ []
matrix_vector = refl

-- ---- X(i,j) = B(i,k) * C(k,j), with loops i, k, j

abbrev matrix_matrix_program : Program
matrix_matrix_program =
    program (matrix ∷ matrix ∷ []) matrix (0 ∷ 2 ∷ []) (term (Access 0 (0 ∷ 1 ∷ []) ∷ Access 1 (1 ∷ 2 ∷ []) ∷ []) ∷ [])
    (4 ∷ 4 ∷ 4 ∷ [])

matrix_matrix :
    program_draft matrix_matrix_program
    ≡ root
    ∷ made (kind.Scan 0 1) (0 ∷ []) (product 1 1 attr.Coordinate ∷ product 1 1 (attr.Rank 0) ∷ [])
    ∷ made kind.Repeat (1 ∷ 0 ∷ []) (product 1 1 (attr.Rank 1) ∷ [])
    ∷ made (kind.Scan 0 2) (2 ∷ []) (product 2 1 attr.Coordinate ∷ product 2 1 (attr.Rank 0) ∷ [])
    ∷ made (kind.Scan 1 1) (3 ∷ []) (product 2 2 attr.Coordinate ∷ product 2 2 (attr.Rank 1) ∷ [])
    ∷ made (kind.Intersect 1 1) (4 ∷ 5 ∷ 6 ∷ 7 ∷ [])
    (product 2 3 attr.Coordinate ∷ product 2 3 (attr.Rank 0) ∷ product 2 3 (attr.Rank 1) ∷ [])
    ∷ made (kind.Scan 1 2) (10 ∷ []) (product 3 2 attr.Coordinate ∷ product 3 2 (attr.Rank 1) ∷ [])
    ∷ made kind.Repeat (11 ∷ 9 ∷ []) (product 3 2 (attr.Rank 0) ∷ [])
    ∷ made (kind.Array 0) (13 ∷ []) (product 3 2 (attr.FactorValue 0) ∷ [])
    ∷ made (kind.Array 1) (12 ∷ []) (product 3 2 (attr.FactorValue 1) ∷ [])
    ∷ made kind.Mul (14 ∷ 15 ∷ []) (product 3 2 (attr.Partial 2) ∷ [])
    ∷ made kind.SumVector (11 ∷ 16 ∷ []) (reduced 1 9 2 attr.Coordinate ∷ reduced 1 9 2 attr.Value ∷ [])
    ∷ made kind.DropValue (17 ∷ 18 ∷ []) (reduced 1 2 2 attr.Coordinate ∷ reduced 1 2 2 attr.Value ∷ [])
    ∷ made kind.DropFiber (1 ∷ 19 ∷ []) (reduced 1 1 1 attr.Coordinate ∷ reduced 1 1 2 attr.Coordinate ∷ [])
    ∷ made (kind.WriteLevel 1) (21 ∷ []) []
    ∷ made (kind.WriteLevel 2) (22 ∷ []) []
    ∷ made kind.WriteValue (20 ∷ []) []
    ∷ []
matrix_matrix = refl

-- ---- the same with loops k, i, j

abbrev outer_product_program : Program
outer_product_program =
    program (tensor (1 ∷ 0 ∷ []) ∷ matrix ∷ []) matrix (1 ∷ 2 ∷ [])
    (term (Access 0 (1 ∷ 0 ∷ []) ∷ Access 1 (0 ∷ 2 ∷ []) ∷ []) ∷ []) (4 ∷ 4 ∷ 4 ∷ [])

outer_product :
    program_draft outer_product_program
    ≡ root
    ∷ made (kind.Scan 0 1) (0 ∷ []) (product 1 1 attr.Coordinate ∷ product 1 1 (attr.Rank 0) ∷ [])
    ∷ made (kind.Scan 1 1) (0 ∷ []) (product 1 2 attr.Coordinate ∷ product 1 2 (attr.Rank 1) ∷ [])
    ∷ made (kind.Intersect 1 1) (1 ∷ 2 ∷ 3 ∷ 4 ∷ [])
    (product 1 3 attr.Coordinate ∷ product 1 3 (attr.Rank 0) ∷ product 1 3 (attr.Rank 1) ∷ [])
    ∷ made (kind.Scan 0 2) (6 ∷ []) (product 2 1 attr.Coordinate ∷ product 2 1 (attr.Rank 0) ∷ [])
    ∷ made kind.Repeat (8 ∷ 7 ∷ []) (product 2 1 (attr.Rank 1) ∷ [])
    ∷ made (kind.Scan 1 2) (10 ∷ []) (product 3 2 attr.Coordinate ∷ product 3 2 (attr.Rank 1) ∷ [])
    ∷ made kind.Repeat (11 ∷ 9 ∷ []) (product 3 2 (attr.Rank 0) ∷ [])
    ∷ made (kind.Array 0) (13 ∷ []) (product 3 2 (attr.FactorValue 0) ∷ [])
    ∷ made (kind.Array 1) (12 ∷ []) (product 3 2 (attr.FactorValue 1) ∷ [])
    ∷ made kind.Mul (14 ∷ 15 ∷ []) (product 3 2 (attr.Partial 2) ∷ [])
    ∷ made kind.SumMatrix (8 ∷ 11 ∷ 16 ∷ [])
    (reduced 1 9 1 attr.Coordinate ∷ reduced 1 9 2 attr.Coordinate ∷ reduced 1 9 2 attr.Value ∷ [])
    ∷ made kind.DropValue (18 ∷ 19 ∷ []) (reduced 1 2 2 attr.Coordinate ∷ reduced 1 2 2 attr.Value ∷ [])
    ∷ made kind.DropFiber (17 ∷ 20 ∷ []) (reduced 1 1 1 attr.Coordinate ∷ reduced 1 1 2 attr.Coordinate ∷ [])
    ∷ made (kind.WriteLevel 1) (22 ∷ []) []
    ∷ made (kind.WriteLevel 2) (23 ∷ []) []
    ∷ made kind.WriteValue (21 ∷ []) []
    ∷ []
outer_product = refl

-- ---- x = b(i) * c(i)

abbrev dot_program : Program
dot_program =
    program (vector ∷ vector ∷ []) (tensor []) [] (term (Access 0 (0 ∷ []) ∷ Access 1 (0 ∷ []) ∷ []) ∷ []) (4 ∷ [])

dot :
    program_draft dot_program
    ≡ root
    ∷ made (kind.Scan 0 1) (0 ∷ []) (product 1 1 attr.Coordinate ∷ product 1 1 (attr.Rank 0) ∷ [])
    ∷ made (kind.Scan 1 1) (0 ∷ []) (product 1 2 attr.Coordinate ∷ product 1 2 (attr.Rank 1) ∷ [])
    ∷ made (kind.Intersect 1 1) (1 ∷ 2 ∷ 3 ∷ 4 ∷ [])
    (product 1 3 attr.Coordinate ∷ product 1 3 (attr.Rank 0) ∷ product 1 3 (attr.Rank 1) ∷ [])
    ∷ made (kind.Array 0) (6 ∷ []) (product 1 3 (attr.FactorValue 0) ∷ [])
    ∷ made (kind.Array 1) (7 ∷ []) (product 1 3 (attr.FactorValue 1) ∷ [])
    ∷ made kind.Mul (8 ∷ 9 ∷ []) (product 1 3 (attr.Partial 2) ∷ [])
    ∷ made kind.SumScalar (0 ∷ 10 ∷ []) (reduced 1 9 0 attr.Value ∷ [])
    ∷ made kind.WriteValue (11 ∷ []) []
    ∷ []
dot = refl

-- ---- x(i) = - 2 * b(i) * c(i) * d(i)

abbrev scaled_program : Program
scaled_program =
    program (vector ∷ vector ∷ vector ∷ []) vector (0 ∷ [])
    (record { minus = true; factors = Literal 2 ∷ Access 0 (0 ∷ []) ∷ Access 1 (0 ∷ []) ∷ Access 2 (0 ∷ []) ∷ [] } ∷ []) (4 ∷ [])

scaled :
    program_draft scaled_program
    ≡ root
    ∷ made (kind.Scan 0 1) (0 ∷ []) (product 1 1 attr.Coordinate ∷ product 1 1 (attr.Rank 0) ∷ [])
    ∷ made (kind.Scan 1 1) (0 ∷ []) (product 1 2 attr.Coordinate ∷ product 1 2 (attr.Rank 1) ∷ [])
    ∷ made (kind.Scan 2 1) (0 ∷ []) (product 1 4 attr.Coordinate ∷ product 1 4 (attr.Rank 2) ∷ [])
    ∷ made (kind.Intersect 1 1) (1 ∷ 2 ∷ 3 ∷ 4 ∷ [])
    (product 1 3 attr.Coordinate ∷ product 1 3 (attr.Rank 0) ∷ product 1 3 (attr.Rank 1) ∷ [])
    ∷ made (kind.Intersect 2 1) (7 ∷ 8 ∷ 9 ∷ 5 ∷ 6 ∷ [])
    (product 1 7 attr.Coordinate ∷ product 1 7 (attr.Rank 0) ∷ product 1 7 (attr.Rank 1) ∷ product 1 7 (attr.Rank 2) ∷ [])
    ∷ made (kind.Array 0) (11 ∷ []) (product 1 7 (attr.FactorValue 0) ∷ [])
    ∷ made (kind.Array 1) (12 ∷ []) (product 1 7 (attr.FactorValue 1) ∷ [])
    ∷ made (kind.Array 2) (13 ∷ []) (product 1 7 (attr.FactorValue 2) ∷ [])
    ∷ made kind.Mul (14 ∷ 15 ∷ []) (product 1 7 (attr.Partial 2) ∷ [])
    ∷ made kind.Mul (17 ∷ 16 ∷ []) (product 1 7 (attr.Partial 3) ∷ [])
    ∷ made (kind.Const (2 ^ 64 - 2)) (18 ∷ []) (product 1 7 (attr.Literal (2 ^ 64 - 2)) ∷ [])
    ∷ made kind.Mul (18 ∷ 19 ∷ []) (product 1 7 attr.Whole ∷ [])
    ∷ made kind.DropValue (10 ∷ 20 ∷ []) (reduced 0 1 1 attr.Coordinate ∷ reduced 0 1 1 attr.Value ∷ [])
    ∷ made (kind.WriteLevel 1) (21 ∷ []) []
    ∷ made kind.WriteValue (22 ∷ []) []
    ∷ []
scaled = refl

-- ---- x = b - c

abbrev scalars_program : Program
scalars_program =
    program (tensor [] ∷ tensor [] ∷ []) (tensor []) [] (difference (Access 0 []) (Access 1 [])) []

scalars :
    program_draft scalars_program
    ≡ root
    ∷ made (kind.Array 0) (0 ∷ []) (product 0 0 (attr.FactorValue 0) ∷ [])
    ∷ made (kind.Array 1) (0 ∷ []) (product_of 1 0 0 (attr.FactorValue 0) ∷ [])
    ∷ made kind.Sub (1 ∷ 2 ∷ []) (joined 1 0 attr.Value ∷ [])
    ∷ made kind.WriteValue (3 ∷ []) []
    ∷ []
scalars = refl

-- ---- x(i) = b(i) - c(i)

abbrev vectors_program : Program
vectors_program =
    program (vector ∷ vector ∷ []) vector (0 ∷ []) (difference (Access 0 (0 ∷ [])) (Access 1 (0 ∷ []))) (4 ∷ [])

vectors :
    program_draft vectors_program
    ≡ root
    ∷ made (kind.Scan 0 1) (0 ∷ []) (product 1 1 attr.Coordinate ∷ product 1 1 (attr.Rank 0) ∷ [])
    ∷ made (kind.Array 0) (2 ∷ []) (product 1 1 (attr.FactorValue 0) ∷ [])
    ∷ made kind.DropValue (1 ∷ 3 ∷ []) (reduced 0 1 1 attr.Coordinate ∷ reduced 0 1 1 attr.Value ∷ [])
    ∷ made (kind.Scan 1 1) (0 ∷ []) (product_of 1 1 1 attr.Coordinate ∷ product_of 1 1 1 (attr.Rank 0) ∷ [])
    ∷ made (kind.Array 1) (7 ∷ []) (product_of 1 1 1 (attr.FactorValue 0) ∷ [])
    ∷ made kind.DropValue (6 ∷ 8 ∷ []) (reduced_of 1 0 1 1 attr.Coordinate ∷ reduced_of 1 0 1 1 attr.Value ∷ [])
    ∷ made (kind.Union 1 1) (4 ∷ 5 ∷ 9 ∷ 10 ∷ [])
    (joined 1 1 attr.Coordinate ∷ joined 1 1 (attr.SideValue Left) ∷ joined 1 1 (attr.SideValue Right) ∷ [])
    ∷ made kind.Sub (12 ∷ 13 ∷ []) (joined 1 1 attr.Value ∷ [])
    ∷ made (kind.WriteLevel 1) (11 ∷ []) []
    ∷ made kind.WriteValue (14 ∷ []) []
    ∷ []
vectors = refl

-- ---- X(i,j) = B(i,j) + C(i,j)

abbrev stored : ℕ → Factor
stored n = Access n (0 ∷ 1 ∷ [])

-- the blocks of both terms, and their join
abbrev sum_of_two : List Made
sum_of_two =
    root
    ∷ made (kind.Scan 0 1) (0 ∷ []) (product 1 1 attr.Coordinate ∷ product 1 1 (attr.Rank 0) ∷ [])
    ∷ made (kind.Scan 0 2) (2 ∷ []) (product 2 1 attr.Coordinate ∷ product 2 1 (attr.Rank 0) ∷ [])
    ∷ made (kind.Array 0) (4 ∷ []) (product 2 1 (attr.FactorValue 0) ∷ [])
    ∷ made kind.DropValue (3 ∷ 5 ∷ []) (reduced 0 2 2 attr.Coordinate ∷ reduced 0 2 2 attr.Value ∷ [])
    ∷ made kind.DropFiber (1 ∷ 6 ∷ []) (reduced 0 1 1 attr.Coordinate ∷ reduced 0 1 2 attr.Coordinate ∷ [])
    ∷ made (kind.Scan 1 1) (0 ∷ []) (product_of 1 1 1 attr.Coordinate ∷ product_of 1 1 1 (attr.Rank 0) ∷ [])
    ∷ made (kind.Scan 1 2) (11 ∷ []) (product_of 1 2 1 attr.Coordinate ∷ product_of 1 2 1 (attr.Rank 0) ∷ [])
    ∷ made (kind.Array 1) (13 ∷ []) (product_of 1 2 1 (attr.FactorValue 0) ∷ [])
    ∷ made kind.DropValue (12 ∷ 14 ∷ []) (reduced_of 1 0 2 2 attr.Coordinate ∷ reduced_of 1 0 2 2 attr.Value ∷ [])
    ∷ made kind.DropFiber (10 ∷ 15 ∷ []) (reduced_of 1 0 1 1 attr.Coordinate ∷ reduced_of 1 0 1 2 attr.Coordinate ∷ [])
    ∷ made (kind.Const 1) (8 ∷ []) (reduced 0 1 1 (attr.Literal 1) ∷ [])
    ∷ made (kind.Const 1) (17 ∷ []) (reduced_of 1 0 1 1 (attr.Literal 1) ∷ [])
    ∷ made (kind.Union 1 1) (8 ∷ 19 ∷ 17 ∷ 20 ∷ [])
    (joined 1 1 attr.Coordinate ∷ joined 1 1 (attr.Present Left) ∷ joined 1 1 (attr.Present Right) ∷ [])
    ∷ made (kind.Fill 1) (22 ∷ 9 ∷ 7 ∷ []) (beside 1 Left 2 attr.Coordinate ∷ beside 1 Left 2 attr.Value ∷ [])
    ∷ made (kind.Fill 1) (23 ∷ 18 ∷ 16 ∷ []) (beside 1 Right 2 attr.Coordinate ∷ beside 1 Right 2 attr.Value ∷ [])
    ∷ made (kind.Union 1 1) (24 ∷ 25 ∷ 26 ∷ 27 ∷ [])
    (joined 1 2 attr.Coordinate ∷ joined 1 2 (attr.SideValue Left) ∷ joined 1 2 (attr.SideValue Right) ∷ [])
    ∷ made kind.Add (29 ∷ 30 ∷ []) (joined 1 2 attr.Value ∷ [])
    ∷ []

abbrev matrices_program : Program
matrices_program =
    program (matrix ∷ matrix ∷ []) matrix (0 ∷ 1 ∷ []) (term (stored 0 ∷ []) ∷ term (stored 1 ∷ []) ∷ []) (4 ∷ 4 ∷ [])

matrices :
    program_draft matrices_program
    ≡ sum_of_two
    ++ (made (kind.WriteLevel 1) (21 ∷ []) [] ∷ made (kind.WriteLevel 2) (28 ∷ []) [] ∷ made kind.WriteValue (31 ∷ []) [] ∷ [])
matrices = refl

-- ---- X(i,j) = B(i,j) + C(i,j) - D(i,j)

abbrev third_and_join : List Made
third_and_join =
    made (kind.Scan 2 1) (0 ∷ []) (product_of 2 1 1 attr.Coordinate ∷ product_of 2 1 1 (attr.Rank 0) ∷ [])
    ∷ made (kind.Scan 2 2) (33 ∷ []) (product_of 2 2 1 attr.Coordinate ∷ product_of 2 2 1 (attr.Rank 0) ∷ [])
    ∷ made (kind.Array 2) (35 ∷ []) (product_of 2 2 1 (attr.FactorValue 0) ∷ [])
    ∷ made kind.DropValue (34 ∷ 36 ∷ []) (reduced_of 2 0 2 2 attr.Coordinate ∷ reduced_of 2 0 2 2 attr.Value ∷ [])
    ∷ made kind.DropFiber (32 ∷ 37 ∷ []) (reduced_of 2 0 1 1 attr.Coordinate ∷ reduced_of 2 0 1 2 attr.Coordinate ∷ [])
    ∷ made (kind.Const 1) (21 ∷ []) (joined 1 1 (attr.Literal 1) ∷ [])
    ∷ made (kind.Const 1) (39 ∷ []) (reduced_of 2 0 1 1 (attr.Literal 1) ∷ [])
    ∷ made (kind.Union 1 1) (21 ∷ 41 ∷ 39 ∷ 42 ∷ [])
    (joined 2 1 attr.Coordinate ∷ joined 2 1 (attr.Present Left) ∷ joined 2 1 (attr.Present Right) ∷ [])
    ∷ made (kind.Fill 1) (44 ∷ 28 ∷ 31 ∷ []) (beside 2 Left 2 attr.Coordinate ∷ beside 2 Left 2 attr.Value ∷ [])
    ∷ made (kind.Fill 1) (45 ∷ 40 ∷ 38 ∷ []) (beside 2 Right 2 attr.Coordinate ∷ beside 2 Right 2 attr.Value ∷ [])
    ∷ made (kind.Union 1 1) (46 ∷ 47 ∷ 48 ∷ 49 ∷ [])
    (joined 2 2 attr.Coordinate ∷ joined 2 2 (attr.SideValue Left) ∷ joined 2 2 (attr.SideValue Right) ∷ [])
    ∷ made kind.Sub (51 ∷ 52 ∷ []) (joined 2 2 attr.Value ∷ [])
    ∷ []

abbrev three_matrices_program : Program
three_matrices_program =
    program (matrix ∷ matrix ∷ matrix ∷ []) matrix (0 ∷ 1 ∷ []) (term (stored 0 ∷ []) ∷ difference (stored 1) (stored 2))
    (4 ∷ 4 ∷ [])

three_matrices :
    program_draft three_matrices_program
    ≡ sum_of_two ++ third_and_join
    ++ (made (kind.WriteLevel 1) (43 ∷ []) [] ∷ made (kind.WriteLevel 2) (50 ∷ []) [] ∷ made kind.WriteValue (53 ∷ []) [] ∷ [])
three_matrices = refl

-- ---- the labels at every block of these drafts are allowed, but for the scalars, which no accepted program has as operands

abbrev labels_allowed : Program → Bool
labels_allowed p = let made = program_draft p in list_all (λ m. allowed p m.kind (map (label_at made) m.ins) m.labels) made

labels-allowed :
    list_all labels_allowed
    (two_vectors_program ∷ matrix_vector_program ∷ matrix_matrix_program ∷ outer_product_program
    ∷ dot_program ∷ scaled_program ∷ vectors_program
    ∷ matrices_program ∷ three_matrices_program ∷ [])
    ≡ true
labels-allowed = refl
