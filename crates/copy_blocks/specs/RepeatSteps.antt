-- The states of a repeater.
use Rattle.std.specs.Prelude.{ℕ, zero, suc}
use Rattle.stream_tokens.specs.declared.Token.{Token}
use Rattle.stream_tokens.specs.declared.Token.TheVariants.{Item, Empty, Stop, Done}
use Rattle.block_core.specs.declared.Wish.{Wish}
use Rattle.block_core.specs.declared.Wish.TheVariants.{Take, Put, Finished}
use Rattle.block_core.specs.Runs.{Steps}
use Rattle.copy_blocks.specs.declared.repeat.RepeatState.{RepeatState}
use Rattle.copy_blocks.specs.declared.repeat.RepeatState.TheVariants.{Outer, Inner, Again, Stopping, Closing, Hollow, Passing, Ended}

abbrev pub repeat_wants : RepeatState → Wish
repeat_wants Outer = Take 1
repeat_wants (Inner outer) = Take 0
repeat_wants (Again outer) = Put 0 outer
repeat_wants (Stopping n) = Put 0 (Stop n)
repeat_wants Closing = Take 1
repeat_wants Hollow = Take 0
repeat_wants (Passing t) = Put 0 t
repeat_wants Ended = Finished

abbrev pub repeat_outer_took : Token → RepeatState
repeat_outer_took (Item x) = Inner (Item x)
repeat_outer_took Empty = Inner Empty
repeat_outer_took (Stop n) = Hollow
repeat_outer_took Done = Hollow

abbrev pub repeat_inner_took : Token → Token → RepeatState
repeat_inner_took outer (Item x) = Again outer
repeat_inner_took outer Empty = Again outer
repeat_inner_took outer (Stop n) = Stopping n
repeat_inner_took outer Done = Ended

abbrev pub repeat_took : RepeatState → Token → RepeatState
repeat_took Outer t = repeat_outer_took t
repeat_took (Inner outer) t = repeat_inner_took outer t
repeat_took (Again outer) t = Again outer
repeat_took (Stopping n) t = Stopping n
repeat_took Closing t = Outer
repeat_took Hollow t = Passing t
repeat_took (Passing u) t = Passing u
repeat_took Ended t = Ended

abbrev pub repeat_stopped : ℕ → RepeatState
repeat_stopped zero = Outer
repeat_stopped (suc n) = Closing

abbrev pub repeat_passed : Token → RepeatState
repeat_passed (Item x) = Outer
repeat_passed Empty = Outer
repeat_passed (Stop n) = Outer
repeat_passed Done = Ended

abbrev pub repeat_put : RepeatState → RepeatState
repeat_put Outer = Outer
repeat_put (Inner outer) = Inner outer
repeat_put (Again outer) = Inner outer
repeat_put (Stopping n) = repeat_stopped n
repeat_put Closing = Closing
repeat_put Hollow = Hollow
repeat_put (Passing t) = repeat_passed t
repeat_put Ended = Ended

abbrev pub repeat_steps : Steps RepeatState
repeat_steps = record { wants = repeat_wants; took = repeat_took; put = repeat_put }
