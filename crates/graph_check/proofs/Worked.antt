-- The rule on writers, evaluated on small graphs.
use Rattle.std.proofs.Common.{◌≡◌, true, false, not, List, [], ◌∷◌, refl}
use Rattle.std.specs.Prelude.{eqb}
use mathlib.Core.List.{map}
use Rattle.graph.specs.declared.graphs.Kind.{Kind}
use Rattle.graph.specs.declared.graphs.Kind.TheVariants.{Root, WriteLevel, WriteValue}
use Rattle.graph.specs.declared.graphs.Graph.{Graph}
use Rattle.graph_check.specs.Writers.{writes_first, all_written}
use Rattle.graph_check.specs.Faults.{first_failing}

-- a graph with blocks of these kinds, not joined
abbrev blocks_of : List Kind → Graph
blocks_of kinds = record { blocks = map (λ k. record { kind = k; ins = []; outs = [] }) kinds; channels = [] }

-- the two writers of a vector
vector_written : all_written 1 (blocks_of (Root ∷ WriteLevel 1 ∷ WriteValue ∷ [])) ≡ true
vector_written = refl

-- a matrix wants a level more
matrix_unwritten : all_written 2 (blocks_of (Root ∷ WriteLevel 1 ∷ WriteValue ∷ [])) ≡ false
matrix_unwritten = refl

-- a level that the result lacks, and a second writer of one
level_too_many : writes_first 1 (blocks_of (Root ∷ WriteLevel 2 ∷ WriteValue ∷ [])) 1 (WriteLevel 2) ≡ false
level_too_many = refl

second_writer : writes_first 1 (blocks_of (WriteLevel 1 ∷ WriteValue ∷ WriteLevel 1 ∷ [])) 2 (WriteLevel 1) ≡ false
second_writer = refl

-- the first number that is 3, of the first five and of the first two
first_three : first_failing (λ k. not (eqb k 3)) 5 ≡ 3
first_three = refl

no_three : first_failing (λ k. not (eqb k 3)) 2 ≡ 2
no_three = refl
