-- root: the one reference 0. It has no input.
use Rattle.std.specs.Prelude.{List, [], ◌∷◌}
use Rattle.stream_tokens.specs.declared.Token.TheVariants.{Item, Done}
use Rattle.block_core.specs.Move.{Move, Putting}
use Rattle.block_core.specs.Ports.{Streams}

abbrev pub root_outputs : Streams
root_outputs = (Item 0 ∷ Done ∷ []) ∷ []

abbrev pub root_moves : List Move
root_moves = Putting 0 (Item 0) ∷ Putting 0 Done ∷ []
