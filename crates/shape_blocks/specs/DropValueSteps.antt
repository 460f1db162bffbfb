-- The states of a value dropper.
use Rattle.std.specs.Prelude.{ℕ}
use Rattle.stream_tokens.specs.declared.Token.{Token}
use Rattle.stream_tokens.specs.declared.Token.TheVariants.{Item, Empty, Stop, Done}
use Rattle.block_core.specs.declared.Wish.{Wish}
use Rattle.block_core.specs.declared.Wish.TheVariants.{Take, Put, Finished}
use Rattle.block_core.specs.Runs.{Steps}
use Rattle.shape_blocks.specs.declared.drop_value.DropValueState.{DropValueState}
use Rattle.shape_blocks.specs.declared.drop_value.DropValueState.TheVariants.{Coordinate, Value, Both, Second, Ended}

abbrev pub drop_value_wants : DropValueState → Wish
drop_value_wants Coordinate = Take 0
drop_value_wants (Value c) = Take 1
drop_value_wants (Both c v) = Put 0 c
drop_value_wants (Second v) = Put 1 v
drop_value_wants Ended = Finished

-- a coordinate is kept where its value is there
abbrev pub kept_if_valued : ℕ → Token → DropValueState
kept_if_valued c (Item x) = Both (Item c) (Item x)
kept_if_valued c Empty = Coordinate
kept_if_valued c (Stop n) = Both (Item c) (Stop n)
kept_if_valued c Done = Both (Item c) Done

abbrev pub value_took : Token → Token → DropValueState
value_took (Item c) t = kept_if_valued c t
value_took Empty t = Both Empty t
value_took (Stop n) t = Both (Stop n) t
value_took Done t = Both Done t

abbrev pub drop_value_took : DropValueState → Token → DropValueState
drop_value_took Coordinate t = Value t
drop_value_took (Value c) t = value_took c t
drop_value_took (Both c v) t = Both c v
drop_value_took (Second v) t = Second v
drop_value_took Ended t = Ended

abbrev pub value_put : Token → DropValueState
value_put (Item x) = Coordinate
value_put Empty = Coordinate
value_put (Stop n) = Coordinate
value_put Done = Ended

abbrev pub drop_value_put : DropValueState → DropValueState
drop_value_put Coordinate = Coordinate
drop_value_put (Value c) = Value c
drop_value_put (Both c v) = Second v
drop_value_put (Second v) = value_put v
drop_value_put Ended = Ended

abbrev pub drop_value_steps : Steps DropValueState
drop_value_steps = record { wants = drop_value_wants; took = drop_value_took; put = drop_value_put }
