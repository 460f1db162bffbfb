-- writelevel and writevalue: what the writers keep of a whole stream. They take it token by token, and put nothing.
use Rattle.std.specs.Prelude.{ℕ, ◌+◌, Bool, true, false, List, [], ◌∷◌, Some, None, length, eqb}
use Rattle.stream_tokens.specs.declared.Token.{Token}
use Rattle.stream_tokens.specs.declared.Token.TheVariants.{Item, Empty, Stop, Done}
use Rattle.stream_tokens.specs.Nest.{Leaf, Fiber}
use Rattle.stream_tokens.specs.Flat.{flat, fibers_of}
use Rattle.stream_tokens.specs.Shapes.{on_fibers}
use Rattle.block_core.specs.Ports.{Streams}

abbrev pub level_inputs : List (Fiber ℕ) → Streams
level_inputs j = flat Item j ∷ []

-- the numbers of a stream
abbrev pub items_in : List Token → List ℕ
items_in [] = []
items_in (Item x ∷ s) = x ∷ items_in s
items_in (Empty ∷ s) = items_in s
items_in (Stop n ∷ s) = items_in s
items_in (Done ∷ s) = items_in s

-- the numbers among leaves
abbrev pub numbers_among : List Leaf → List ℕ
numbers_among [] = []
numbers_among (None ∷ os) = numbers_among os
numbers_among (Some n ∷ os) = n ∷ numbers_among os

-- the fibers of a stream, with their items alone
abbrev pub item_fibers : List Token → List (Fiber ℕ)
item_fibers s = on_fibers numbers_among (fibers_of s)

-- the number of items at the end of each fiber that has one, or of each fiber at the first level, after `count` items
abbrev pub ends_from : Bool → ℕ → List (Fiber ℕ) → List ℕ
ends_from first count [] = []
ends_from true count (f ∷ fs) = (count + length f.0) ∷ ends_from true (count + length f.0) fs
ends_from false count (([], n) ∷ fs) = ends_from false count fs
ends_from false count (((x ∷ xs), n) ∷ fs) = (count + length (x ∷ xs)) ∷ ends_from false (count + length (x ∷ xs)) fs

-- The arrays that are written of one stream: the segments and the coordinates of a level, counted from 1, and the values.
abbrev pub segs_of : ℕ → List Token → List ℕ
segs_of level s = 0 ∷ ends_from (eqb level 1) 0 (item_fibers s)

abbrev pub crds_of : List Token → List ℕ
crds_of s = items_in s

abbrev pub vals_of : List Token → List ℕ
vals_of s = items_in s
