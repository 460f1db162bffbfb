-- The states of a broadcast to so many outputs.
use Rattle.std.specs.Prelude.{ℕ, zero, suc, ◌+◌, ◌-◌, nat_lt, if◌then◌else◌}
use Rattle.stream_tokens.specs.declared.Token.{Token}
use Rattle.stream_tokens.specs.declared.Token.TheVariants.{Item, Empty, Stop, Done}
use Rattle.block_core.specs.declared.Wish.{Wish}
use Rattle.block_core.specs.declared.Wish.TheVariants.{Take, Put, Finished}
use Rattle.block_core.specs.Runs.{Steps}
use Rattle.copy_blocks.specs.declared.cast_block.CastState.{CastState}
use Rattle.copy_blocks.specs.declared.cast_block.CastState.TheVariants.{Wanting, Giving, Ended}

-- once a token is on all outputs
abbrev pub cast_after : Token → CastState
cast_after (Item x) = Wanting
cast_after Empty = Wanting
cast_after (Stop n) = Wanting
cast_after Done = Ended

abbrev pub cast_wants : CastState → Wish
cast_wants Wanting = Take 0
cast_wants (Giving t port) = Put port t
cast_wants Ended = Finished

-- a token was taken, and there are so many outputs
abbrev pub cast_begun : ℕ → Token → CastState
cast_begun zero t = cast_after t
cast_begun (suc n) t = Giving t 0

abbrev pub cast_took : ℕ → CastState → Token → CastState
cast_took outs Wanting t = cast_begun outs t
cast_took outs (Giving u port) t = Giving u port
cast_took outs Ended t = Ended

abbrev pub cast_put : ℕ → CastState → CastState
cast_put outs Wanting = Wanting
cast_put outs (Giving t port) = if nat_lt port (outs - 1) then Giving t (port + 1) else cast_after t
cast_put outs Ended = Ended

abbrev pub cast_steps : ℕ → Steps CastState
cast_steps outs = record { wants = cast_wants; took = cast_took outs; put = cast_put outs }
