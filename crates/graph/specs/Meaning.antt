-- What the blocks of a graph do over stored tensors.
use Rattle.std.specs.Prelude.{ℕ, List, [], get_or}
use Rattle.sam_model.specs.Children.{Ranked}
use Rattle.levels.specs.Reads.{children_at}
use Rattle.block_core.specs.Arithmetic.{Times, Plus, Minus}
use Rattle.block_core.specs.Kind.{Kind, RootKind, ScanKind, RepeatKind, CastKind, DrainKind, IntersectKind, UnionKind, ArrayKind, AluKind, ConstKind, SumScalarKind, SumVectorKind, SumMatrixKind, DropValueKind, DropFiberKind, FillKind, WriteLevelKind, WriteValueKind}
use Rattle.graph.specs.declared.graphs.Kind.{Kind as BlockKind}
use Rattle.graph.specs.declared.graphs.Kind.TheVariants.{Root, Scan, Repeat, Cast, Drain, Intersect, Union, Array, Mul, Add, Sub, Const, SumScalar, SumVector, SumMatrix, DropValue, DropFiber, Fill, WriteLevel, WriteValue}

abbrev pub no_storage : Ranked
no_storage = record { counts = []; children = []; values = [] }

-- a stored tensor by its number
abbrev pub stored_at : List Ranked → ℕ → Ranked
stored_at storages n = get_or storages n no_storage

-- the kind of a block, with what it reads of the stored tensors
abbrev pub meaning : List Ranked → BlockKind → Kind
meaning storages Root = RootKind
meaning storages (Scan tensor level) = ScanKind (children_at (stored_at storages tensor) level)
meaning storages Repeat = RepeatKind
meaning storages (Cast outs) = CastKind outs
meaning storages Drain = DrainKind
meaning storages (Intersect left right) = IntersectKind left right
meaning storages (Union left right) = UnionKind left right
meaning storages (Array tensor) = ArrayKind (stored_at storages tensor).values
meaning storages Mul = AluKind Times
meaning storages Add = AluKind Plus
meaning storages Sub = AluKind Minus
meaning storages (Const value) = ConstKind value
meaning storages SumScalar = SumScalarKind
meaning storages SumVector = SumVectorKind
meaning storages SumMatrix = SumMatrixKind
meaning storages DropValue = DropValueKind
meaning storages DropFiber = DropFiberKind
meaning storages (Fill payloads) = FillKind payloads
meaning storages (WriteLevel level) = WriteLevelKind level
meaning storages WriteValue = WriteValueKind
