-- A worked case: over two vectors the graph of their product is consistent.
use Rattle.std.specs.Prelude.{zero, suc, [], ◌∷◌, Some, refl}
use Rattle.std.proofs.Common.{inr, arith}
use Rattle.graph.specs.WholeStreams.{Consistent}
use Rattle.graph.proofs.Vectors.{vectors, stored}

consistent : Consistent stored vectors
-- root
consistent zero l = record { streams = tt; back = refl; well = tt }
-- scans
consistent (suc zero) l = record {
  streams = ((0, omega arith, Some 0, refl), tt);
  back = refl;
  well = record { shaped = inr (Some 0, refl); references = (omega arith, tt) };
}
consistent (suc (suc zero)) l = record {
  streams = ((0, omega arith, Some 0, refl), tt);
  back = refl;
  well = record { shaped = inr (Some 0, refl); references = (omega arith, tt) };
}
-- intersect
consistent (suc (suc (suc zero))) l = record {
  streams = ((1, omega arith, Some 0 ∷ Some 2 ∷ [], refl), ((1, omega arith, Some 0 ∷ Some 1 ∷ [], refl), ((1, omega arith, Some 2 ∷ Some 3 ∷ [], refl), ((1, omega arith, Some 0 ∷ Some 1 ∷ [], refl), tt))));
  back = refl;
  well = record { closes = ((0, refl), tt); ascend = ((omega arith, tt), (omega arith, tt), tt) };
}
-- arrays
consistent (suc (suc (suc (suc zero)))) l = record {
  streams = ((1, omega arith, Some 1 ∷ [], refl), tt);
  back = refl;
  well = (omega arith, tt);
}
consistent (suc (suc (suc (suc (suc zero))))) l = record {
  streams = ((1, omega arith, Some 0 ∷ [], refl), tt);
  back = refl;
  well = (omega arith, tt);
}
-- mul
consistent (suc (suc (suc (suc (suc (suc zero)))))) l = record {
  streams = ((1, omega arith, Some 5 ∷ [], refl), ((1, omega arith, Some 7 ∷ [], refl), tt));
  back = refl;
  well = tt;
}
-- dropvalue
consistent (suc (suc (suc (suc (suc (suc (suc zero))))))) l = record {
  streams = ((1, omega arith, Some 2 ∷ [], refl), ((1, omega arith, Some 35 ∷ [], refl), tt));
  back = refl;
  well = ((0, refl), tt);
}
-- writelevel
consistent (suc (suc (suc (suc (suc (suc (suc (suc zero)))))))) l = record {
  streams = ((1, omega arith, Some 2 ∷ [], refl), tt);
  back = refl;
  well = ((0, refl), tt);
}
-- writevalue
consistent (suc (suc (suc (suc (suc (suc (suc (suc (suc zero))))))))) l = record {
  streams = ((1, omega arith, Some 35 ∷ [], refl), tt);
  back = refl;
  well = tt;
}
-- cast
consistent (suc (suc (suc (suc (suc (suc (suc (suc (suc (suc zero)))))))))) l = record {
  streams = ((0, omega arith, Some 0, refl), tt);
  back = refl;
  well = tt;
}
consistent (suc (suc (suc (suc (suc (suc (suc (suc (suc (suc (suc b))))))))))) l = absurd (omega (arith, l))
