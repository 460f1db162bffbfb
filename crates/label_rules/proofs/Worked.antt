-- The rules, evaluated on rows of lowered graphs and on the same rows with one thing turned.
use Rattle.std.proofs.Common.{◌≡◌, ℕ, Bool, true, false, List, [], ◌∷◌, refl}
use Rattle.std.specs.List.{list_all, list_any}
use mathlib.Core.List.{map}
use Rattle.sam_model.specs.declared.tensors.Format.TheVariants.{Compressed}
use Rattle.sam_model.specs.declared.tensors.Tensor.{Tensor}
use Rattle.sam_model.specs.declared.program.Factor.{Factor}
use Rattle.sam_model.specs.declared.program.Factor.TheVariants.{Access, Literal as Number}
use Rattle.sam_model.specs.declared.program.Term.{Term}
use Rattle.sam_model.specs.declared.program.Program.{Program}
use Rattle.stream_model.specs.declared.labels.Side.{Side}
use Rattle.stream_model.specs.declared.labels.Side.TheVariants.{Left, Right}
use Rattle.stream_model.specs.declared.labels.Tree.TheVariants as tree
use Rattle.stream_model.specs.declared.labels.Attr.{Attr}
use Rattle.stream_model.specs.declared.labels.Attr.TheVariants.{Coordinate, Rank, FactorValue, Partial, Whole, Value, Present, SideValue, Literal}
use Rattle.stream_model.specs.declared.labels.Label.{Label}
use Rattle.graph.specs.declared.graphs.Kind.{Kind}
use Rattle.graph.specs.declared.graphs.Kind.TheVariants as kind
use Rattle.label_rules.specs.Labels.{no_label}
use Rattle.label_rules.specs.Rules.{allowed}

-- ---- programs, labels and rows in few words

-- a compressed tensor of dimensions 4, stored in this order
abbrev tensor : List ℕ → Tensor
tensor order = record { name = []; dims = map (λ _. 4) order; formats = map (λ _. Compressed) order; order = order; file = [] }

abbrev vector : Tensor
vector = tensor (0 ∷ [])

abbrev matrix : Tensor
matrix = tensor (0 ∷ 1 ∷ [])

abbrev term : Bool → List Factor → Term
term minus factors = record { minus = minus; factors = factors }

abbrev program : List Tensor → Tensor → List ℕ → List Term → List ℕ → Program
program tensors result left terms sizes =
    record { tensors = tensors; result = result; left = left; terms = terms; tops = []; var_names = map (λ _. []) sizes; var_sizes = sizes }

abbrev product : ℕ → ℕ → ℕ → Attr → Label
product t level mask attr = record { tree = tree.Product t level mask; attr = attr }

abbrev reduced : ℕ → ℕ → ℕ → ℕ → Attr → Label
reduced t gone prune depth attr = record { tree = tree.Reduced t gone prune depth; attr = attr }

abbrev joined : ℕ → ℕ → Attr → Label
joined last depth attr = record { tree = tree.Joined last depth; attr = attr }

abbrev beside : ℕ → Side → ℕ → Attr → Label
beside last side depth attr = record { tree = tree.Beside last side depth; attr = attr }

abbrev under : ℕ → ℕ → ℕ → Attr → Label
under t level mask attr = record { tree = tree.Under t level mask; attr = attr }

-- a block's kind, and the labels of its inputs and its outputs
record Row : Type 0 where
  kind : Kind
  ins : List Label
  outs : List Label

abbrev row : Kind → List Label → List Label → Row
row k ins outs = record { kind = k; ins = ins; outs = outs }

abbrev is_allowed : Program → Row → Bool
is_allowed p r = allowed p r.kind r.ins r.outs

abbrev all_allowed : Program → List Row → Bool
all_allowed p rows = list_all (is_allowed p) rows

abbrev some_allowed : Program → List Row → Bool
some_allowed p rows = list_any (is_allowed p) rows

-- ---- x(i) = B(i,j) * c(j)

abbrev matrix_vector : Program
matrix_vector =
    program (matrix ∷ vector ∷ []) vector (0 ∷ []) (term false (Access 0 (0 ∷ 1 ∷ []) ∷ Access 1 (1 ∷ []) ∷ []) ∷ []) (4 ∷ 4 ∷ [])

matrix-vector :
    all_allowed matrix_vector
    (row kind.Root [] (no_label ∷ [])
    ∷ row (kind.Scan 0 1) (no_label ∷ []) (product 0 1 1 Coordinate ∷ product 0 1 1 (Rank 0) ∷ [])
    ∷ row kind.Repeat (product 0 1 1 Coordinate ∷ no_label ∷ []) (product 0 1 1 (Rank 1) ∷ [])
    ∷ row (kind.Scan 0 2) (product 0 1 1 (Rank 0) ∷ []) (product 0 2 1 Coordinate ∷ product 0 2 1 (Rank 0) ∷ [])
    ∷ row (kind.Scan 1 1) (product 0 1 1 (Rank 1) ∷ []) (product 0 2 2 Coordinate ∷ product 0 2 2 (Rank 1) ∷ [])
    ∷ row (kind.Intersect 1 1)
    (product 0 2 1 Coordinate ∷ product 0 2 1 (Rank 0) ∷ product 0 2 2 Coordinate ∷ product 0 2 2 (Rank 1) ∷ [])
    (product 0 2 3 Coordinate ∷ product 0 2 3 (Rank 0) ∷ product 0 2 3 (Rank 1) ∷ [])
    ∷ row (kind.Array 0) (product 0 2 3 (Rank 0) ∷ []) (product 0 2 3 (FactorValue 0) ∷ [])
    ∷ row (kind.Array 1) (product 0 2 3 (Rank 1) ∷ []) (product 0 2 3 (FactorValue 1) ∷ [])
    ∷ row kind.Mul (product 0 2 3 (FactorValue 0) ∷ product 0 2 3 (FactorValue 1) ∷ []) (product 0 2 3 (Partial 2) ∷ [])
    ∷ row kind.SumScalar (product 0 1 1 Coordinate ∷ product 0 2 3 (Partial 2) ∷ []) (reduced 0 1 9 1 Value ∷ [])
    ∷ row kind.DropValue (product 0 1 1 Coordinate ∷ reduced 0 1 9 1 Value ∷ []) (reduced 0 1 1 1 Coordinate ∷ reduced 0 1 1 1 Value ∷ [])
    ∷ row (kind.WriteLevel 1) (reduced 0 1 1 1 Coordinate ∷ []) []
    ∷ row kind.WriteValue (reduced 0 1 1 1 Value ∷ []) []
    ∷ row (kind.Cast 2) (product 0 1 1 Coordinate ∷ []) (product 0 1 1 Coordinate ∷ product 0 1 1 Coordinate ∷ [])
    ∷ row kind.Drain (product 0 2 3 Whole ∷ []) [] ∷ [])
    ≡ true
matrix-vector = refl

-- another way to name the same streams
matrix-vector-otherwise :
    all_allowed matrix_vector
    (row kind.SumScalar (product 0 1 1 Coordinate ∷ product 0 2 3 Whole ∷ []) (reduced 0 1 9 1 Value ∷ [])
    ∷ row kind.DropValue (reduced 0 1 9 1 Coordinate ∷ reduced 0 1 9 1 Value ∷ []) (reduced 0 1 1 1 Coordinate ∷ reduced 0 1 1 1 Value ∷ [])
    ∷ row kind.Mul (product 0 2 3 (Partial 1) ∷ product 0 2 3 (FactorValue 1) ∷ []) (product 0 2 3 (Partial 2) ∷ [])
    ∷ row kind.Mul (product 0 2 3 (Partial 2) ∷ product 0 2 3 (Literal 1) ∷ []) (product 0 2 3 Whole ∷ []) ∷ [])
    ≡ true
matrix-vector-otherwise = refl

-- of another tensor, level, factor or mask, with a port less, or of something else
matrix-vector-turned :
    some_allowed matrix_vector
    (row kind.Root [] []
    ∷ row (kind.Scan 1 1) (no_label ∷ []) (product 0 1 1 Coordinate ∷ product 0 1 1 (Rank 0) ∷ [])
    ∷ row (kind.Scan 0 1) (product 0 1 1 (Rank 0) ∷ []) (product 0 2 1 Coordinate ∷ product 0 2 1 (Rank 0) ∷ [])
    ∷ row (kind.Scan 0 2) (product 0 1 1 (Rank 0) ∷ []) (product 0 2 1 Coordinate ∷ [])
    ∷ row kind.Repeat (product 0 1 1 Coordinate ∷ no_label ∷ []) (product 0 1 1 (Rank 0) ∷ [])
    ∷ row (kind.Intersect 1 1)
    (product 0 2 1 Coordinate ∷ product 0 2 1 (Rank 0) ∷ product 0 2 2 Coordinate ∷ product 0 2 2 (Rank 1) ∷ [])
    (product 0 2 1 Coordinate ∷ product 0 2 1 (Rank 0) ∷ product 0 2 1 (Rank 1) ∷ [])
    ∷ row (kind.Array 0) (product 0 2 3 (Rank 0) ∷ []) (product 0 2 3 Whole ∷ [])
    ∷ row (kind.Array 1) (product 0 2 3 (Rank 0) ∷ []) (product 0 2 3 (FactorValue 0) ∷ [])
    ∷ row kind.Mul (product 0 2 3 (FactorValue 1) ∷ product 0 2 3 (FactorValue 0) ∷ []) (product 0 2 3 (Partial 2) ∷ [])
    ∷ row kind.SumScalar (product 0 2 3 Coordinate ∷ product 0 2 3 (Partial 2) ∷ []) (reduced 0 1 9 1 Value ∷ [])
    ∷ row kind.SumScalar (product 0 1 1 Coordinate ∷ product 0 2 3 (Partial 1) ∷ []) (reduced 0 1 9 1 Value ∷ [])
    ∷ row kind.SumVector (product 0 2 3 Coordinate ∷ product 0 2 3 (Partial 2) ∷ []) (reduced 0 1 9 1 Coordinate ∷ reduced 0 1 9 1 Value ∷ [])
    ∷ row kind.DropValue (product 0 1 1 Coordinate ∷ reduced 0 1 9 1 Value ∷ []) (reduced 0 1 9 1 Coordinate ∷ reduced 0 1 9 1 Value ∷ [])
    ∷ row (kind.WriteLevel 1) (reduced 0 1 9 1 Coordinate ∷ []) []
    ∷ row (kind.WriteLevel 2) (reduced 0 1 2 2 Coordinate ∷ []) []
    ∷ row kind.WriteValue (reduced 0 1 9 1 Value ∷ []) []
    ∷ row (kind.Cast 2) (product 0 1 1 Coordinate ∷ []) (product 0 1 1 Coordinate ∷ product 0 2 3 Coordinate ∷ [])
    ∷ row (kind.Cast 3) (product 0 1 1 Coordinate ∷ []) (product 0 1 1 Coordinate ∷ product 0 1 1 Coordinate ∷ [])
    ∷ row (kind.Scan 0 1) (no_label ∷ []) (under 0 1 1 Coordinate ∷ under 0 1 1 (Rank 0) ∷ []) ∷ [])
    ≡ false
matrix-vector-turned = refl

-- ---- X(i,j) = B(i,k) * C(k,j) with the loops i, k, j, and then with k, i, j

abbrev rows_by_rows : Program
rows_by_rows =
    program (matrix ∷ matrix ∷ []) matrix (0 ∷ 2 ∷ [])
    (term false (Access 0 (0 ∷ 1 ∷ []) ∷ Access 1 (1 ∷ 2 ∷ []) ∷ []) ∷ []) (4 ∷ 4 ∷ 4 ∷ [])

rows-by-rows :
    all_allowed rows_by_rows
    (row kind.SumVector (product 0 3 2 Coordinate ∷ product 0 3 2 (Partial 2) ∷ []) (reduced 0 1 9 2 Coordinate ∷ reduced 0 1 9 2 Value ∷ [])
    ∷ row kind.DropValue (reduced 0 1 9 2 Coordinate ∷ reduced 0 1 9 2 Value ∷ []) (reduced 0 1 2 2 Coordinate ∷ reduced 0 1 2 2 Value ∷ [])
    ∷ row kind.DropFiber (product 0 1 1 Coordinate ∷ reduced 0 1 2 2 Coordinate ∷ []) (reduced 0 1 1 1 Coordinate ∷ reduced 0 1 1 2 Coordinate ∷ [])
    ∷ row (kind.WriteLevel 2) (reduced 0 1 1 2 Coordinate ∷ []) [] ∷ [])
    ≡ true
rows-by-rows = refl

-- the level k is no level of the result, and a fiber is dropped where values were
rows-by-rows-turned :
    some_allowed rows_by_rows
    (row kind.DropValue (product 0 2 3 Coordinate ∷ reduced 0 1 9 2 Value ∷ []) (reduced 0 1 2 2 Coordinate ∷ reduced 0 1 2 2 Value ∷ [])
    ∷ row kind.DropFiber (product 0 1 1 Coordinate ∷ reduced 0 1 9 2 Coordinate ∷ []) (reduced 0 1 1 1 Coordinate ∷ reduced 0 1 1 2 Coordinate ∷ [])
    ∷ row kind.DropFiber (product 0 2 3 Coordinate ∷ reduced 0 1 2 2 Coordinate ∷ []) (reduced 0 1 1 1 Coordinate ∷ reduced 0 1 1 2 Coordinate ∷ [])
    ∷ row kind.SumScalar (product 0 2 3 Coordinate ∷ product 0 3 2 (Partial 2) ∷ []) (reduced 0 1 9 2 Value ∷ []) ∷ [])
    ≡ false
rows-by-rows-turned = refl

abbrev outer_products : Program
outer_products =
    program (tensor (1 ∷ 0 ∷ []) ∷ matrix ∷ []) matrix (1 ∷ 2 ∷ [])
    (term false (Access 0 (1 ∷ 0 ∷ []) ∷ Access 1 (0 ∷ 2 ∷ []) ∷ []) ∷ []) (4 ∷ 4 ∷ 4 ∷ [])

outer-products :
    all_allowed outer_products
    (row kind.SumMatrix (product 0 2 1 Coordinate ∷ product 0 3 2 Coordinate ∷ product 0 3 2 (Partial 2) ∷ [])
    (reduced 0 1 9 1 Coordinate ∷ reduced 0 1 9 2 Coordinate ∷ reduced 0 1 9 2 Value ∷ []) ∷ [])
    ≡ true
outer-products = refl

-- ---- x(i) = - 2 * b(i)

abbrev scaled : Program
scaled = program (vector ∷ []) vector (0 ∷ []) (term true (Number 2 ∷ Access 0 (0 ∷ []) ∷ []) ∷ []) (4 ∷ [])

scaled-rows :
    all_allowed scaled
    (row (kind.Const 18446744073709551614) (product 0 1 1 (FactorValue 0) ∷ []) (product 0 1 1 (Literal 18446744073709551614) ∷ [])
    ∷ row (kind.Const 7) (product 0 1 1 Coordinate ∷ []) (product 0 1 1 (Literal 7) ∷ [])
    ∷ row kind.Mul (product 0 1 1 (FactorValue 0) ∷ product 0 1 1 (Literal 18446744073709551614) ∷ []) (product 0 1 1 Whole ∷ [])
    ∷ row kind.DropValue (product 0 1 1 Coordinate ∷ product 0 1 1 Whole ∷ []) (reduced 0 0 1 1 Coordinate ∷ reduced 0 0 1 1 Value ∷ []) ∷ [])
    ≡ true
scaled-rows = refl

-- another coefficient, a constant of another number or beside references, and values without the coefficient
scaled-turned :
    some_allowed scaled
    (row kind.Mul (product 0 1 1 (FactorValue 0) ∷ product 0 1 1 (Literal 2) ∷ []) (product 0 1 1 Whole ∷ [])
    ∷ row (kind.Const 7) (product 0 1 1 Coordinate ∷ []) (product 0 1 1 (Literal 8) ∷ [])
    ∷ row (kind.Const 7) (product 0 1 1 (Rank 0) ∷ []) (product 0 1 1 (Literal 7) ∷ [])
    ∷ row kind.DropValue (product 0 1 1 Coordinate ∷ product 0 1 1 (FactorValue 0) ∷ []) (reduced 0 0 1 1 Coordinate ∷ reduced 0 0 1 1 Value ∷ [])
    ∷ [])
    ≡ false
scaled-turned = refl

-- ---- X(i,j) = B(i,j) - C(i,j)

abbrev difference : Program
difference =
    program (matrix ∷ matrix ∷ []) matrix (0 ∷ 1 ∷ [])
    (term false (Access 0 (0 ∷ 1 ∷ []) ∷ []) ∷ term true (Access 1 (0 ∷ 1 ∷ []) ∷ []) ∷ []) (4 ∷ 4 ∷ [])

difference-rows :
    all_allowed difference
    (row (kind.Const 1) (reduced 1 0 1 1 Coordinate ∷ []) (reduced 1 0 1 1 (Literal 1) ∷ [])
    ∷ row (kind.Union 1 1)
    (reduced 0 0 1 1 Coordinate ∷ reduced 0 0 1 1 (Literal 1) ∷ reduced 1 0 1 1 Coordinate ∷ reduced 1 0 1 1 (Literal 1) ∷ [])
    (joined 1 1 Coordinate ∷ joined 1 1 (Present Left) ∷ joined 1 1 (Present Right) ∷ [])
    ∷ row (kind.Fill 1) (joined 1 1 (Present Left) ∷ reduced 0 0 1 2 Coordinate ∷ reduced 0 0 2 2 Value ∷ [])
    (beside 1 Left 2 Coordinate ∷ beside 1 Left 2 Value ∷ [])
    ∷ row (kind.Fill 1) (joined 1 1 (Present Right) ∷ reduced 1 0 1 2 Coordinate ∷ reduced 1 0 2 2 Value ∷ [])
    (beside 1 Right 2 Coordinate ∷ beside 1 Right 2 Value ∷ [])
    ∷ row (kind.Union 1 1)
    (beside 1 Left 2 Coordinate ∷ beside 1 Left 2 Value ∷ beside 1 Right 2 Coordinate ∷ beside 1 Right 2 Value ∷ [])
    (joined 1 2 Coordinate ∷ joined 1 2 (SideValue Left) ∷ joined 1 2 (SideValue Right) ∷ [])
    ∷ row kind.Sub (joined 1 2 (SideValue Left) ∷ joined 1 2 (SideValue Right) ∷ []) (joined 1 2 Value ∷ [])
    ∷ row (kind.WriteLevel 2) (joined 1 2 Coordinate ∷ []) []
    ∷ row kind.WriteValue (joined 1 2 Value ∷ []) [] ∷ [])
    ≡ true
difference-rows = refl

-- a side filled by the presence of the other, sides that are exchanged, the wrong sign, presence for values, and one term's levels
difference-turned :
    some_allowed difference
    (row (kind.Fill 1) (joined 1 1 (Present Left) ∷ reduced 1 0 1 2 Coordinate ∷ reduced 1 0 2 2 Value ∷ [])
    (beside 1 Right 2 Coordinate ∷ beside 1 Right 2 Value ∷ [])
    ∷ row (kind.Fill 1) (joined 1 1 (Present Left) ∷ reduced 0 0 9 2 Coordinate ∷ reduced 0 0 2 2 Value ∷ [])
    (beside 1 Left 2 Coordinate ∷ beside 1 Left 2 Value ∷ [])
    ∷ row (kind.Union 1 1)
    (beside 1 Right 2 Coordinate ∷ beside 1 Right 2 Value ∷ beside 1 Left 2 Coordinate ∷ beside 1 Left 2 Value ∷ [])
    (joined 1 2 Coordinate ∷ joined 1 2 (SideValue Left) ∷ joined 1 2 (SideValue Right) ∷ [])
    ∷ row (kind.Union 1 1)
    (beside 1 Left 2 Coordinate ∷ beside 1 Left 2 Value ∷ beside 1 Right 2 Coordinate ∷ beside 1 Right 2 Value ∷ [])
    (joined 1 2 Coordinate ∷ joined 1 2 (Present Left) ∷ joined 1 2 (Present Right) ∷ [])
    ∷ row kind.Add (joined 1 2 (SideValue Left) ∷ joined 1 2 (SideValue Right) ∷ []) (joined 1 2 Value ∷ [])
    ∷ row kind.Sub (joined 1 2 (SideValue Right) ∷ joined 1 2 (SideValue Left) ∷ []) (joined 1 2 Value ∷ [])
    ∷ row (kind.WriteLevel 2) (reduced 1 0 1 2 Coordinate ∷ []) [] ∷ [])
    ≡ false
difference-turned = refl

-- ---- x = b(i) + c(i): a result without levels

abbrev two_sums : Program
two_sums = program (vector ∷ vector ∷ []) (tensor []) [] (term false (Access 0 (0 ∷ []) ∷ []) ∷ term false (Access 1 (0 ∷ []) ∷ []) ∷ []) (4 ∷ [])

two-sums :
    all_allowed two_sums
    (row kind.SumScalar (no_label ∷ product 0 1 1 (FactorValue 0) ∷ []) (reduced 0 1 9 0 Value ∷ [])
    ∷ row kind.Add (reduced 0 1 9 0 Value ∷ reduced 1 1 9 0 Value ∷ []) (joined 1 0 Value ∷ [])
    ∷ row kind.WriteValue (joined 1 0 Value ∷ []) [] ∷ [])
    ≡ true
two-sums = refl

two-sums-turned :
    some_allowed two_sums
    (row kind.Add (reduced 1 1 9 0 Value ∷ reduced 0 1 9 0 Value ∷ []) (joined 1 0 Value ∷ [])
    ∷ row kind.DropValue (no_label ∷ reduced 0 1 9 0 Value ∷ []) (reduced 0 1 0 0 Coordinate ∷ reduced 0 1 0 0 Value ∷ [])
    ∷ row kind.WriteValue (reduced 0 1 9 0 Value ∷ []) [] ∷ [])
    ≡ false
two-sums-turned = refl
