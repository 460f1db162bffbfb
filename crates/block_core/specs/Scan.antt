-- scan: beneath each reference lie the coordinates of its children, and their references.
use Rattle.std.specs.Prelude.{ℕ, suc, Bool, true, false, List, [], ◌∷◌, Some, None, get_or, length}
use mathlib.Core.List.{map}
use Rattle.stream_tokens.specs.declared.Token.{Token}
use Rattle.stream_tokens.specs.declared.Token.TheVariants.{Item, Empty, Stop, Done}
use Rattle.stream_tokens.specs.Nest.{Leaf, leaf, Fiber}
use Rattle.stream_tokens.specs.Flat.{flat, fibers_of}
use Rattle.stream_tokens.specs.Shapes.{under, Shaped}
use Rattle.block_core.specs.Move.{Move, Taking, Putting, put_two}
use Rattle.block_core.specs.Ports.{Streams, port}
use Rattle.block_core.specs.Change.{ItemsBelow}

-- the children of each reference of a level's parent: coordinates, ascending, with their references
abbrev pub Children : Type 0
Children = List (List (ℕ × ℕ))

abbrev pub kids : Children → Leaf → List (ℕ × ℕ)
kids children None = []
kids children (Some r) = get_or children r []

abbrev pub coordinates_below : Children → Leaf → List ℕ
coordinates_below children x = map (λ c. c.0) (kids children x)

abbrev pub references_below : Children → Leaf → List ℕ
references_below children x = map (λ c. c.1) (kids children x)

abbrev pub scan_reading : Streams → List (Fiber Leaf)
scan_reading ins = fibers_of (port 0 ins)

abbrev pub scan_inputs : List (Fiber Leaf) → Streams
scan_inputs j = flat leaf j ∷ []

abbrev pub scan_outputs : Children → List (Fiber Leaf) → Streams
scan_outputs children j = flat Item (under (coordinates_below children) j) ∷ flat Item (under (references_below children) j) ∷ []

pub record ScanFits (children : Children) (j : List (Fiber Leaf)) : Type 0 where
  pub shaped : Shaped j
  pub references : ItemsBelow (length children) (flat leaf j)

-- ---- the moves

abbrev pub parting_two : Bool → List Move → List Move
parting_two true rest = put_two (Stop 0) rest
parting_two false rest = rest

abbrev pub kid_moves : List (ℕ × ℕ) → List Move → List Move
kid_moves [] rest = rest
kid_moves (c ∷ cs) rest = Putting 0 (Item c.0) ∷ Putting 1 (Item c.1) ∷ kid_moves cs rest

-- the flag says whether a token was taken since the last stop
abbrev pub scan_moves : Children → Bool → List Token → List Move
scan_moves children more [] = []
scan_moves children more (Item r ∷ s) = Taking 0 (Item r) ∷ parting_two more (kid_moves (kids children (Some r)) (scan_moves children true s))
scan_moves children more (Empty ∷ s) = Taking 0 Empty ∷ parting_two more (scan_moves children true s)
scan_moves children more (Stop n ∷ s) = Taking 0 (Stop n) ∷ put_two (Stop (suc n)) (scan_moves children false s)
scan_moves children more (Done ∷ s) = Taking 0 Done ∷ parting_two more (put_two Done [])
