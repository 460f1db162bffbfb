-- A chain of two statements over one vector, `y(i) = b(i) - b(i)` and `x(i) = y(i)`, with what each lists.
use Rattle.std.specs.Prelude.{ℕ, Bool, true, false, List, [], ◌∷◌, Option, codes}
use Rattle.sam_model.specs.declared.tensors.Format.TheVariants.{Compressed}
use Rattle.sam_model.specs.declared.tensors.Tensor.{Tensor}
use Rattle.sam_model.specs.declared.tensors.Entries.{Entries}
use Rattle.sam_model.specs.declared.tensors.Written.{Written}
use Rattle.sam_model.specs.declared.program.Factor.TheVariants.{Access}
use Rattle.sam_model.specs.declared.program.Term.{Term}
use Rattle.sam_model.specs.declared.program.Program.{Program}
use Rattle.sam_model.specs.Trees.{TopTree}
use Rattle.sam_model.specs.Trees as tree
use Rattle.sam_chain.specs.Running.{Running}

-- a compressed vector of four
abbrev pub vector : List ℕ → List ℕ → Tensor
vector name file = record { name = name; dims = 4 ∷ []; formats = Compressed ∷ []; order = 0 ∷ []; file = file }

abbrev pub term : Bool → ℕ → Term
term minus n = record { minus = minus; factors = Access n (0 ∷ []) ∷ [] }

abbrev pub top : Bool → ℕ → TopTree
top minus n = record { minus = minus; body = tree.Access n (0 ∷ []); implied = [] }

abbrev pub statement : List Tensor → Tensor → List Term → List TopTree → Program
statement tensors result terms tops = record {
  tensors = tensors;
  result = result;
  left = 0 ∷ [];
  terms = terms;
  tops = tops;
  var_names = codes "i" ∷ [];
  var_sizes = 4 ∷ [];
}

abbrev pub first : Program
first =
    statement (vector (codes "b") (codes "b.tns") ∷ []) (vector (codes "y") []) (term false 0 ∷ term true 0 ∷ []) (top false 0 ∷ top true 0 ∷ [])

abbrev pub second : Program
second =
    statement (vector (codes "b") (codes "b.tns") ∷ vector (codes "y") [] ∷ []) (vector (codes "x") []) (term false 1 ∷ []) (top false 1 ∷ [])

-- the file has 2 at 1 and 5 at 3
abbrev pub file : Entries
file = record { arity = 1; coords = 0 ∷ 2 ∷ []; values = 2 ∷ 5 ∷ [] }

-- what cancels is written
abbrev pub zeros : Written
zeros = record { segs = (0 ∷ 2 ∷ []) ∷ []; crds = (0 ∷ 2 ∷ []) ∷ []; vals = 0 ∷ 0 ∷ [] }

abbrev pub steps : List Program
steps = first ∷ second ∷ []

-- the run of the chain, once so many results were given
abbrev pub run_at : ℕ → Option Written → Running
run_at n last = record { steps = steps; files = file ∷ []; step = n; last = last }
