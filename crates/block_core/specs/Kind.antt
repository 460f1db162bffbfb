-- The kinds of blocks: how each reads its whole input streams, its whole output streams, its moves, and which inputs fit.
use Rattle.std.specs.Prelude.{◌≡◌, ℕ, suc, ◌+◌, true, false, List, [], ◌∷◌, length}
use Rattle.stream_tokens.specs.declared.Token.{Token}
use Rattle.stream_tokens.specs.declared.Token.TheVariants.{Item}
use Rattle.stream_tokens.specs.Nest.{Leaf, leaf, Fiber}
use Rattle.stream_tokens.specs.Flat.{flat}
use Rattle.stream_tokens.specs.Shapes.{Positive, Shaped}
use Rattle.block_core.specs.Move.{Move}
use Rattle.block_core.specs.Ports.{Streams, port, AllStreams, numbers_of}
use Rattle.block_core.specs.Root.{root_outputs, root_moves}
use Rattle.block_core.specs.Scan.{Children, scan_reading, scan_inputs, scan_outputs, scan_moves, ScanFits}
use Rattle.block_core.specs.Repeat.{repeat_reading, repeat_inputs, repeat_outputs, repeat_moves}
use Rattle.block_core.specs.Cast.{cast_outputs, cast_moves, drain_moves}
use Rattle.block_core.specs.Merge.{Sides, merge_reading, merge_inputs, merge_outputs, merge_moves, SidesFit}
use Rattle.block_core.specs.Change.{ItemsBelow, referenced_value, change_outputs, change_moves}
use Rattle.block_core.specs.Arithmetic.{Operation}
use Rattle.block_core.specs.Alu.{alu_reading, alu_inputs, alu_outputs, alu_moves}
use Rattle.block_core.specs.SumScalar.{sumscalar_reading, sumscalar_inputs, sumscalar_outputs, sumscalar_moves}
use Rattle.block_core.specs.SumVector.{sumvector_reading, sumvector_inputs, sumvector_outputs, sumvector_moves}
use Rattle.block_core.specs.SumMatrix.{MatrixRow, summatrix_reading, summatrix_inputs, summatrix_outputs, summatrix_moves}
use Rattle.block_core.specs.DropValue.{dropvalue_reading, dropvalue_inputs, dropvalue_outputs, dropvalue_moves}
use Rattle.block_core.specs.DropFiber.{dropfiber_reading, dropfiber_inputs, dropfiber_outputs, dropfiber_moves}
use Rattle.block_core.specs.Fill.{Filling, fill_reading, fill_inputs, fill_outputs, fill_moves}
use Rattle.block_core.specs.Written.{level_inputs}

pub data Kind : Type 0 where
  RootKind : Kind
  -- the children of each reference of the level's parent
  ScanKind : (children : Children) → Kind
  RepeatKind : Kind
  CastKind : (outs : ℕ) → Kind
  DrainKind : Kind
  IntersectKind : (left right : ℕ) → Kind
  UnionKind : (left right : ℕ) → Kind
  -- the value of each full reference
  ArrayKind : (values : List ℕ) → Kind
  AluKind : (op : Operation) → Kind
  ConstKind : (constant : ℕ) → Kind
  SumScalarKind : Kind
  SumVectorKind : Kind
  SumMatrixKind : Kind
  DropValueKind : Kind
  DropFiberKind : Kind
  FillKind : (payloads : ℕ) → Kind
  WriteLevelKind : (level : ℕ) → Kind
  WriteValueKind : Kind

abbrev pub ins_of : Kind → ℕ
ins_of RootKind = 0
ins_of (ScanKind children) = 1
ins_of RepeatKind = 2
ins_of (CastKind outs) = 1
ins_of DrainKind = 1
ins_of (IntersectKind l r) = l + r + 2
ins_of (UnionKind l r) = l + r + 2
ins_of (ArrayKind values) = 1
ins_of (AluKind op) = 2
ins_of (ConstKind c) = 1
ins_of SumScalarKind = 2
ins_of SumVectorKind = 2
ins_of SumMatrixKind = 3
ins_of DropValueKind = 2
ins_of DropFiberKind = 2
ins_of (FillKind w) = w + 2
ins_of (WriteLevelKind level) = 1
ins_of WriteValueKind = 1

abbrev pub outs_of : Kind → ℕ
outs_of RootKind = 1
outs_of (ScanKind children) = 2
outs_of RepeatKind = 1
outs_of (CastKind outs) = outs
outs_of DrainKind = 0
outs_of (IntersectKind l r) = l + r + 1
outs_of (UnionKind l r) = l + r + 1
outs_of (ArrayKind values) = 1
outs_of (AluKind op) = 1
outs_of (ConstKind c) = 1
outs_of SumScalarKind = 1
outs_of SumVectorKind = 2
outs_of SumMatrixKind = 3
outs_of DropValueKind = 2
outs_of DropFiberKind = 2
outs_of (FillKind w) = w + 1
outs_of (WriteLevelKind level) = 0
outs_of WriteValueKind = 0

-- what a kind reads its whole inputs as
abbrev pub Reading : Kind → Type 0
Reading RootKind = Unit {0}
Reading (ScanKind children) = List (Fiber Leaf)
Reading RepeatKind = List (Fiber (Leaf × List ℕ))
Reading (CastKind outs) = List Token
Reading DrainKind = List Token
Reading (IntersectKind l r) = List Sides
Reading (UnionKind l r) = List Sides
Reading (ArrayKind values) = List Token
Reading (AluKind op) = List (Fiber (Leaf × Leaf))
Reading (ConstKind c) = List Token
Reading SumScalarKind = List (Fiber (ℕ × List Leaf))
Reading SumVectorKind = List (Fiber (List (ℕ × Leaf)))
Reading SumMatrixKind = List (Fiber (List MatrixRow))
Reading DropValueKind = List (Fiber (ℕ × Leaf))
Reading DropFiberKind = List (Fiber (ℕ × List ℕ))
Reading (FillKind w) = Filling
Reading (WriteLevelKind level) = List (Fiber ℕ)
Reading WriteValueKind = List Token

-- the reading of whole inputs
abbrev pub reading : (kind : Kind) → Streams → Reading kind
reading RootKind ins = tt
reading (ScanKind children) ins = scan_reading ins
reading RepeatKind ins = repeat_reading ins
reading (CastKind outs) ins = port 0 ins
reading DrainKind ins = port 0 ins
reading (IntersectKind l r) ins = merge_reading l r ins
reading (UnionKind l r) ins = merge_reading l r ins
reading (ArrayKind values) ins = port 0 ins
reading (AluKind op) ins = alu_reading ins
reading (ConstKind c) ins = port 0 ins
reading SumScalarKind ins = sumscalar_reading ins
reading SumVectorKind ins = sumvector_reading ins
reading SumMatrixKind ins = summatrix_reading ins
reading DropValueKind ins = dropvalue_reading ins
reading DropFiberKind ins = dropfiber_reading ins
reading (FillKind w) ins = fill_reading w ins
reading (WriteLevelKind level) ins = numbers_of (port 0 ins)
reading WriteValueKind ins = port 0 ins

-- the whole inputs of which this is the reading
abbrev pub given : (kind : Kind) → Reading kind → Streams
given RootKind j = []
given (ScanKind children) j = scan_inputs j
given RepeatKind j = repeat_inputs j
given (CastKind outs) j = j ∷ []
given DrainKind j = j ∷ []
given (IntersectKind l r) j = merge_inputs l r j
given (UnionKind l r) j = merge_inputs l r j
given (ArrayKind values) j = j ∷ []
given (AluKind op) j = alu_inputs j
given (ConstKind c) j = j ∷ []
given SumScalarKind j = sumscalar_inputs j
given SumVectorKind j = sumvector_inputs j
given SumMatrixKind j = summatrix_inputs j
given DropValueKind j = dropvalue_inputs j
given DropFiberKind j = dropfiber_inputs j
given (FillKind w) j = fill_inputs w j
given (WriteLevelKind level) j = level_inputs j
given WriteValueKind j = j ∷ []

-- the whole outputs
abbrev pub made : (kind : Kind) → Reading kind → Streams
made RootKind j = root_outputs
made (ScanKind children) j = scan_outputs children j
made RepeatKind j = repeat_outputs j
made (CastKind outs) j = cast_outputs outs j
made DrainKind j = []
made (IntersectKind l r) j = merge_outputs false l r j
made (UnionKind l r) j = merge_outputs true l r j
made (ArrayKind values) j = change_outputs (referenced_value values) j
made (AluKind op) j = alu_outputs op j
made (ConstKind c) j = change_outputs (λ _. c) j
made SumScalarKind j = sumscalar_outputs j
made SumVectorKind j = sumvector_outputs j
made SumMatrixKind j = summatrix_outputs j
made DropValueKind j = dropvalue_outputs j
made DropFiberKind j = dropfiber_outputs j
made (FillKind w) j = fill_outputs w j
made (WriteLevelKind level) j = []
made WriteValueKind j = []

-- the takes and puts, in order
abbrev pub played : (kind : Kind) → Reading kind → List Move
played RootKind j = root_moves
played (ScanKind children) j = scan_moves children false (flat leaf j)
played RepeatKind j = repeat_moves j
played (CastKind outs) j = cast_moves outs j
played DrainKind j = drain_moves j
played (IntersectKind l r) j = merge_moves false l r j
played (UnionKind l r) j = merge_moves true l r j
played (ArrayKind values) j = change_moves (referenced_value values) j
played (AluKind op) j = alu_moves op j
played (ConstKind c) j = change_moves (λ _. c) j
played SumScalarKind j = sumscalar_moves j
played SumVectorKind j = sumvector_moves j
played SumMatrixKind j = summatrix_moves j
played DropValueKind j = dropvalue_moves j
played DropFiberKind j = dropfiber_moves j
played (FillKind w) j = fill_moves (suc w) j.tails j.fibers
played (WriteLevelKind level) j = drain_moves (flat Item j)
played WriteValueKind j = drain_moves j

-- what a reading must satisfy besides
abbrev pub Well : (kind : Kind) → Reading kind → Type 0
Well RootKind j = Unit {0}
Well (ScanKind children) j = ScanFits children j
Well RepeatKind j = Shaped j
Well (CastKind outs) j = Unit {0}
Well DrainKind j = Unit {0}
Well (IntersectKind l r) j = SidesFit j
Well (UnionKind l r) j = SidesFit j
Well (ArrayKind values) j = ItemsBelow (length values) j
Well (AluKind op) j = Unit {0}
Well (ConstKind c) j = Unit {0}
Well SumScalarKind j = Shaped j
Well SumVectorKind j = Positive j
Well SumMatrixKind j = Positive j
Well DropValueKind j = Positive j
Well DropFiberKind j = Positive j
Well (FillKind w) j = Positive j.fibers
Well (WriteLevelKind level) j = Positive j
Well WriteValueKind j = Unit {0}

-- the whole outputs and the moves of a kind, for whole inputs
abbrev pub outputs : Kind → Streams → Streams
outputs kind ins = made kind (reading kind ins)

abbrev pub moves : Kind → Streams → List Move
moves kind ins = played kind (reading kind ins)

-- These whole inputs fit: each is the stream of a tree, together they have the shapes that the kind reads, and what was
-- read meets the kind's own condition.
pub record Fits (kind : Kind) (ins : Streams) : Type 0 where
  pub streams : AllStreams ins
  pub back : given kind (reading kind ins) ≡ ins
  pub well : Well kind (reading kind ins)
