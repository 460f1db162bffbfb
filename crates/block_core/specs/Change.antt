-- const and array: each number becomes another, and all else stays.
use Rattle.std.specs.Prelude.{◌<◌, ℕ, List, [], ◌∷◌, get_or}
use mathlib.Core.List.{map}
use Rattle.stream_tokens.specs.declared.Token.{Token}
use Rattle.stream_tokens.specs.declared.Token.TheVariants.{Item, Empty, Stop, Done}
use Rattle.block_core.specs.Move.{Move, Taking, Putting}
use Rattle.block_core.specs.Ports.{Streams}

abbrev pub on_item : (ℕ → ℕ) → Token → Token
on_item f (Item x) = Item (f x)
on_item f Empty = Empty
on_item f (Stop n) = Stop n
on_item f Done = Done

-- the value at a reference
abbrev pub referenced_value : List ℕ → ℕ → ℕ
referenced_value values r = get_or values r 0

-- each number is below n
abbrev pub ItemsBelow : ℕ → List Token → Type 0
ItemsBelow n [] = Unit {0}
ItemsBelow n (Item r ∷ s) = (r < n) × ItemsBelow n s
ItemsBelow n (Empty ∷ s) = ItemsBelow n s
ItemsBelow n (Stop k ∷ s) = ItemsBelow n s
ItemsBelow n (Done ∷ s) = ItemsBelow n s

abbrev pub change_outputs : (ℕ → ℕ) → List Token → Streams
change_outputs f s = map (on_item f) s ∷ []

abbrev pub change_moves : (ℕ → ℕ) → List Token → List Move
change_moves f [] = []
change_moves f (t ∷ s) = Taking 0 t ∷ Putting 0 (on_item f t) ∷ change_moves f s
