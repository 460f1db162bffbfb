-- The moves of every kind take its whole inputs and put its whole outputs.
use Rattle.std.proofs.Common.{subst}
use Rattle.block_core.specs.Ports.{Streams}
use Rattle.block_core.specs.Kind.{Kind, RootKind, ScanKind, RepeatKind, CastKind, DrainKind, IntersectKind, UnionKind, ArrayKind, AluKind, ConstKind, SumScalarKind, SumVectorKind, SumMatrixKind, DropValueKind, DropFiberKind, FillKind, WriteLevelKind, WriteValueKind, Reading, reading, given, made, played, Well, Fits, outputs, moves}
use Rattle.block_core.specs.Change.{referenced_value}
use Rattle.block_core.specs.Flows.{Flows, Passes}
use Rattle.block_core.proofs.Passing.{flows-pass}
use Rattle.block_core.proofs.PlainFlows.{root-flows, cast-flows, drain-flows, change-flows, alu-flows, dropvalue-flows}
use Rattle.block_core.proofs.RepeatFlows.{repeat-flows, sumscalar-flows}
use Rattle.block_core.proofs.SpaceFlows.{sumvector-flows, summatrix-flows}
use Rattle.block_core.proofs.BeneathFlows.{scan-flows, dropfiber-flows}
use Rattle.block_core.proofs.MergeFlows.{merge-flows}
use Rattle.block_core.proofs.FillFlows.{fill-flows}
use Rattle.std.specs.Prelude.{true, false}

pub all-flows : (kind : Kind) (j : Reading kind) → Well kind j → Flows (played kind j) (given kind j) (made kind j)
all-flows RootKind j w = root-flows
all-flows (ScanKind children) j w = scan-flows children j w.shaped
all-flows RepeatKind j w = repeat-flows j w
all-flows (CastKind outs) j w = cast-flows outs j
all-flows DrainKind j w = drain-flows j
all-flows (IntersectKind l r) j w = merge-flows false l r j w
all-flows (UnionKind l r) j w = merge-flows true l r j w
all-flows (ArrayKind values) j w = change-flows (referenced_value values) j
all-flows (AluKind op) j w = alu-flows op j
all-flows (ConstKind c) j w = change-flows (λ _. c) j
all-flows SumScalarKind j w = sumscalar-flows j w
all-flows SumVectorKind j w = sumvector-flows j w
all-flows SumMatrixKind j w = summatrix-flows j w
all-flows DropValueKind j w = dropvalue-flows j
all-flows DropFiberKind j w = dropfiber-flows j w
all-flows (FillKind payloads) j w = fill-flows payloads j w
all-flows (WriteLevelKind level) j w = drain-flows _
all-flows WriteValueKind j w = drain-flows j

pub all-pass : (kind : Kind) (ins : Streams) → Fits kind ins → Passes ins (moves kind ins) (outputs kind ins)
all-pass kind ins f =
    subst (λ (x : Streams). Passes x (moves kind ins) (outputs kind ins)) f.back
    (flows-pass (moves kind ins) (given kind (reading kind ins)) (outputs kind ins) (all-flows kind (reading kind ins) f.well))
