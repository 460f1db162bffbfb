-- A kind has as many ports whatever the stored tensors are.
use Rattle.std.specs.Prelude.{◌≡◌, List, [], refl}
use Rattle.sam_model.specs.Children.{Ranked}
use Rattle.block_core.specs.Kind.{ins_of, outs_of}
use Rattle.graph.specs.declared.graphs.Kind.{Kind}
use Rattle.graph.specs.declared.graphs.Kind.TheVariants.{Root, Scan, Repeat, Cast, Drain, Intersect, Union, Array, Mul, Add, Sub, Const, SumScalar, SumVector, SumMatrix, DropValue, DropFiber, Fill, WriteLevel, WriteValue}
use Rattle.graph.specs.Meaning.{meaning}

-- as many input ports
pub same-ins : (storages : List Ranked) (k : Kind) → ins_of (meaning storages k) ≡ ins_of (meaning [] k)
same-ins storages Root = refl
same-ins storages (Scan tensor level) = refl
same-ins storages Repeat = refl
same-ins storages (Cast outs) = refl
same-ins storages Drain = refl
same-ins storages (Intersect left right) = refl
same-ins storages (Union left right) = refl
same-ins storages (Array tensor) = refl
same-ins storages Mul = refl
same-ins storages Add = refl
same-ins storages Sub = refl
same-ins storages (Const value) = refl
same-ins storages SumScalar = refl
same-ins storages SumVector = refl
same-ins storages SumMatrix = refl
same-ins storages DropValue = refl
same-ins storages DropFiber = refl
same-ins storages (Fill payloads) = refl
same-ins storages (WriteLevel level) = refl
same-ins storages WriteValue = refl

-- and output ports
pub same-outs : (storages : List Ranked) (k : Kind) → outs_of (meaning storages k) ≡ outs_of (meaning [] k)
same-outs storages Root = refl
same-outs storages (Scan tensor level) = refl
same-outs storages Repeat = refl
same-outs storages (Cast outs) = refl
same-outs storages Drain = refl
same-outs storages (Intersect left right) = refl
same-outs storages (Union left right) = refl
same-outs storages (Array tensor) = refl
same-outs storages Mul = refl
same-outs storages Add = refl
same-outs storages Sub = refl
same-outs storages (Const value) = refl
same-outs storages SumScalar = refl
same-outs storages SumVector = refl
same-outs storages SumMatrix = refl
same-outs storages DropValue = refl
same-outs storages DropFiber = refl
same-outs storages (Fill payloads) = refl
same-outs storages (WriteLevel level) = refl
same-outs storages WriteValue = refl
