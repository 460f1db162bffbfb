-- Worked cases: whole inputs that fit.
use Rattle.std.specs.Prelude.{[], ◌∷◌, Some, None, refl}
use Rattle.std.proofs.Common.{arith, inl, inr}
use Rattle.stream_tokens.specs.declared.Token.TheVariants.{Item, Empty, Stop, Done}
use Rattle.block_core.specs.Arithmetic.{Minus}
use Rattle.block_core.specs.Kind.{RootKind, ScanKind, RepeatKind, CastKind, DrainKind, IntersectKind, UnionKind, ArrayKind, AluKind, ConstKind, SumScalarKind, SumVectorKind, SumMatrixKind, DropValueKind, DropFiberKind, FillKind, WriteLevelKind, WriteValueKind, Fits}

-- root
pub root-fits : Fits (RootKind) ([])
root-fits = record {
  streams = (tt);
  back = refl;
  well = tt;
}

-- scan
pub scan-fits : Fits (ScanKind (((1, 0) ∷ []) ∷ ((0, 1) ∷ (2, 2) ∷ []) ∷ ((1, 3) ∷ (3, 4) ∷ []) ∷ [])) ((Item 0 ∷ Item 1 ∷ Item 2 ∷ Stop 0 ∷ Done ∷ []) ∷ [])
scan-fits = record {
  streams = ((1, omega arith, ((Some 0) ∷ (Some 1) ∷ (Some 2) ∷ []), refl), tt);
  back = refl;
  well = record { shaped = inl ((0, refl), tt); references = (omega arith, (omega arith, (omega arith, tt))) };
}

-- scan of a stream of depth 0
pub scan-root-fits : Fits (ScanKind (((0, 0) ∷ (1, 1) ∷ (3, 2) ∷ []) ∷ [])) ((Item 0 ∷ Done ∷ []) ∷ [])
scan-root-fits = record {
  streams = ((0, omega arith, Some 0, refl), tt);
  back = refl;
  well = record { shaped = inr (Some 0, refl); references = (omega arith, tt) };
}

-- repeat
pub repeat-fits : Fits (RepeatKind) ((Item 0 ∷ Item 2 ∷ Stop 0 ∷ Item 1 ∷ Stop 1 ∷ Done ∷ []) ∷ (Item 5 ∷ Empty ∷ Stop 0 ∷ Done ∷ []) ∷ [])
repeat-fits = record {
  streams = ((2, omega arith, (((Some 0) ∷ (Some 2) ∷ []) ∷ ((Some 1) ∷ []) ∷ []), refl), ((1, omega arith, ((Some 5) ∷ None ∷ []), refl), tt));
  back = refl;
  well = inl ((0, refl), tt);
}

-- cast
pub cast-fits : Fits (CastKind 3) ((Item 4 ∷ Empty ∷ Stop 0 ∷ Stop 1 ∷ Done ∷ []) ∷ [])
cast-fits = record {
  streams = ((2, omega arith, (((Some 4) ∷ None ∷ []) ∷ ([]) ∷ []), refl), tt);
  back = refl;
  well = tt;
}

-- drain
pub drain-fits : Fits (DrainKind) ((Item 4 ∷ Empty ∷ Stop 0 ∷ Stop 1 ∷ Done ∷ []) ∷ [])
drain-fits = record {
  streams = ((2, omega arith, (((Some 4) ∷ None ∷ []) ∷ ([]) ∷ []), refl), tt);
  back = refl;
  well = tt;
}

-- intersect
pub intersect-fits : Fits (IntersectKind 1 1) ((Item 0 ∷ Item 2 ∷ Stop 0 ∷ Done ∷ []) ∷ (Item 0 ∷ Item 1 ∷ Stop 0 ∷ Done ∷ []) ∷ (Item 2 ∷ Item 3 ∷ Stop 0 ∷ Done ∷ []) ∷ (Item 0 ∷ Item 1 ∷ Stop 0 ∷ Done ∷ []) ∷ [])
intersect-fits = record {
  streams = ((1, omega arith, ((Some 0) ∷ (Some 2) ∷ []), refl), ((1, omega arith, ((Some 0) ∷ (Some 1) ∷ []), refl), ((1, omega arith, ((Some 2) ∷ (Some 3) ∷ []), refl), ((1, omega arith, ((Some 0) ∷ (Some 1) ∷ []), refl), tt))));
  back = refl;
  well = record { closes = ((0, refl), tt); ascend = ((omega arith, tt), (omega arith, tt), tt) };
}

-- union
pub union-fits : Fits (UnionKind 1 1) ((Stop 0 ∷ Item 4 ∷ Stop 1 ∷ Stop 2 ∷ Done ∷ []) ∷ (Stop 0 ∷ Empty ∷ Stop 1 ∷ Stop 2 ∷ Done ∷ []) ∷ (Item 0 ∷ Item 3 ∷ Stop 0 ∷ Item 2 ∷ Item 4 ∷ Stop 1 ∷ Stop 2 ∷ Done ∷ []) ∷ (Item 1 ∷ Empty ∷ Stop 0 ∷ Item 4 ∷ Item 5 ∷ Stop 1 ∷ Stop 2 ∷ Done ∷ []) ∷ [])
union-fits = record {
  streams = ((3, omega arith, ((([]) ∷ ((Some 4) ∷ []) ∷ []) ∷ [] ∷ []), refl), ((3, omega arith, ((([]) ∷ (None ∷ []) ∷ []) ∷ [] ∷ []), refl), ((3, omega arith, ((((Some 0) ∷ (Some 3) ∷ []) ∷ ((Some 2) ∷ (Some 4) ∷ []) ∷ []) ∷ [] ∷ []), refl), ((3, omega arith, ((((Some 1) ∷ None ∷ []) ∷ ((Some 4) ∷ (Some 5) ∷ []) ∷ []) ∷ [] ∷ []), refl), tt))));
  back = refl;
  well = record { closes = ((0, refl), ((1, refl), ((2, refl), tt))); ascend = (tt, (omega arith, tt), (tt, (omega arith, tt), (tt, tt, tt))) };
}

-- array
pub array-fits : Fits (ArrayKind (7 ∷ 0 ∷ 9 ∷ [])) ((Item 2 ∷ Empty ∷ Stop 0 ∷ Item 1 ∷ Stop 1 ∷ Done ∷ []) ∷ [])
array-fits = record {
  streams = ((2, omega arith, (((Some 2) ∷ None ∷ []) ∷ ((Some 1) ∷ []) ∷ []), refl), tt);
  back = refl;
  well = (omega arith, (omega arith, tt));
}

-- sub
pub sub-fits : Fits (AluKind Minus) ((Item 5 ∷ Empty ∷ Item 5 ∷ Empty ∷ Stop 0 ∷ Done ∷ []) ∷ (Item 2 ∷ Item 2 ∷ Empty ∷ Empty ∷ Stop 0 ∷ Done ∷ []) ∷ [])
sub-fits = record {
  streams = ((1, omega arith, ((Some 5) ∷ None ∷ (Some 5) ∷ None ∷ []), refl), ((1, omega arith, ((Some 2) ∷ (Some 2) ∷ None ∷ None ∷ []), refl), tt));
  back = refl;
  well = tt;
}

-- const
pub const-fits : Fits (ConstKind 6) ((Item 2 ∷ Empty ∷ Stop 0 ∷ Item 1 ∷ Stop 1 ∷ Done ∷ []) ∷ [])
const-fits = record {
  streams = ((2, omega arith, (((Some 2) ∷ None ∷ []) ∷ ((Some 1) ∷ []) ∷ []), refl), tt);
  back = refl;
  well = tt;
}

-- sumscalar
pub sumscalar-fits : Fits (SumScalarKind) ((Item 0 ∷ Stop 0 ∷ Done ∷ []) ∷ (Stop 1 ∷ Done ∷ []) ∷ [])
sumscalar-fits = record {
  streams = ((1, omega arith, ((Some 0) ∷ []), refl), ((2, omega arith, [], refl), tt));
  back = refl;
  well = inl ((0, refl), tt);
}

-- sumscalar below the root
pub sumscalar-root-fits : Fits (SumScalarKind) ((Item 0 ∷ Done ∷ []) ∷ (Item 5 ∷ Item 6 ∷ Stop 0 ∷ Done ∷ []) ∷ [])
sumscalar-root-fits = record {
  streams = ((0, omega arith, Some 0, refl), ((1, omega arith, ((Some 5) ∷ (Some 6) ∷ []), refl), tt));
  back = refl;
  well = inr ((0, Some 5 ∷ Some 6 ∷ []), refl);
}

-- sumvector
pub sumvector-fits : Fits (SumVectorKind) ((Item 0 ∷ Item 1 ∷ Stop 0 ∷ Item 1 ∷ Stop 1 ∷ Done ∷ []) ∷ (Item 2 ∷ Item 3 ∷ Stop 0 ∷ Item 4 ∷ Stop 1 ∷ Done ∷ []) ∷ [])
sumvector-fits = record {
  streams = ((2, omega arith, (((Some 0) ∷ (Some 1) ∷ []) ∷ ((Some 1) ∷ []) ∷ []), refl), ((2, omega arith, (((Some 2) ∷ (Some 3) ∷ []) ∷ ((Some 4) ∷ []) ∷ []), refl), tt));
  back = refl;
  well = ((0, refl), tt);
}

-- summatrix
pub summatrix-fits : Fits (SumMatrixKind) ((Item 0 ∷ Item 1 ∷ Stop 0 ∷ Item 0 ∷ Stop 1 ∷ Done ∷ []) ∷ (Item 0 ∷ Stop 0 ∷ Item 1 ∷ Stop 1 ∷ Item 0 ∷ Stop 2 ∷ Done ∷ []) ∷ (Item 1 ∷ Stop 0 ∷ Item 2 ∷ Stop 1 ∷ Item 3 ∷ Stop 2 ∷ Done ∷ []) ∷ [])
summatrix-fits = record {
  streams = ((2, omega arith, (((Some 0) ∷ (Some 1) ∷ []) ∷ ((Some 0) ∷ []) ∷ []), refl), ((3, omega arith, ((((Some 0) ∷ []) ∷ ((Some 1) ∷ []) ∷ []) ∷ (((Some 0) ∷ []) ∷ []) ∷ []), refl), ((3, omega arith, ((((Some 1) ∷ []) ∷ ((Some 2) ∷ []) ∷ []) ∷ (((Some 3) ∷ []) ∷ []) ∷ []), refl), tt)));
  back = refl;
  well = ((0, refl), tt);
}

-- dropvalue
pub dropvalue-fits : Fits (DropValueKind) ((Item 0 ∷ Item 1 ∷ Stop 0 ∷ Item 2 ∷ Stop 1 ∷ Done ∷ []) ∷ (Item 5 ∷ Empty ∷ Stop 0 ∷ Empty ∷ Stop 1 ∷ Done ∷ []) ∷ [])
dropvalue-fits = record {
  streams = ((2, omega arith, (((Some 0) ∷ (Some 1) ∷ []) ∷ ((Some 2) ∷ []) ∷ []), refl), ((2, omega arith, (((Some 5) ∷ None ∷ []) ∷ (None ∷ []) ∷ []), refl), tt));
  back = refl;
  well = ((0, refl), ((1, refl), tt));
}

-- dropfiber
pub dropfiber-fits : Fits (DropFiberKind) ((Item 0 ∷ Item 1 ∷ Stop 0 ∷ Done ∷ []) ∷ (Item 0 ∷ Stop 0 ∷ Stop 1 ∷ Done ∷ []) ∷ [])
dropfiber-fits = record {
  streams = ((1, omega arith, ((Some 0) ∷ (Some 1) ∷ []), refl), ((2, omega arith, (((Some 0) ∷ []) ∷ ([]) ∷ []), refl), tt));
  back = refl;
  well = ((0, refl), tt);
}

-- fill
pub fill-fits : Fits (FillKind 1) ((Empty ∷ Item 1 ∷ Stop 0 ∷ Done ∷ []) ∷ (Item 0 ∷ Stop 1 ∷ Done ∷ []) ∷ (Stop 0 ∷ Stop 0 ∷ Item 4 ∷ Stop 1 ∷ Done ∷ []) ∷ [])
fill-fits = record {
  streams = ((1, omega arith, (None ∷ (Some 1) ∷ []), refl), ((2, omega arith, (((Some 0) ∷ []) ∷ []), refl), ((2, omega arith, (([]) ∷ ([]) ∷ ((Some 4) ∷ []) ∷ []), refl), tt)));
  back = refl;
  well = ((0, refl), tt);
}

-- writelevel
pub writelevel-fits : Fits (WriteLevelKind 2) ((Item 1 ∷ Stop 0 ∷ Stop 0 ∷ Item 0 ∷ Stop 1 ∷ Done ∷ []) ∷ [])
writelevel-fits = record {
  streams = ((2, omega arith, (((Some 1) ∷ []) ∷ ([]) ∷ ((Some 0) ∷ []) ∷ []), refl), tt);
  back = refl;
  well = ((0, refl), ((0, refl), ((1, refl), tt)));
}

-- writevalue
pub writevalue-fits : Fits (WriteValueKind) ((Item 1 ∷ Empty ∷ Stop 0 ∷ Item 0 ∷ Stop 1 ∷ Done ∷ []) ∷ [])
writevalue-fits = record {
  streams = ((2, omega arith, (((Some 1) ∷ None ∷ []) ∷ ((Some 0) ∷ []) ∷ []), refl), tt);
  back = refl;
  well = tt;
}
