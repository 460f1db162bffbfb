-- The states of a drain.
use Rattle.stream_tokens.specs.declared.Token.{Token}
use Rattle.stream_tokens.specs.declared.Token.TheVariants.{Item, Empty, Stop, Done}
use Rattle.block_core.specs.declared.Wish.{Wish}
use Rattle.block_core.specs.declared.Wish.TheVariants.{Take, Finished}
use Rattle.block_core.specs.Runs.{Steps}
use Rattle.copy_blocks.specs.declared.drain_block.DrainState.{DrainState}
use Rattle.copy_blocks.specs.declared.drain_block.DrainState.TheVariants.{Wanting, Ended}

abbrev pub drain_wants : DrainState → Wish
drain_wants Wanting = Take 0
drain_wants Ended = Finished

abbrev pub drain_took : DrainState → Token → DrainState
drain_took state (Item x) = state
drain_took state Empty = state
drain_took state (Stop n) = state
drain_took state Done = Ended

-- a drain never puts
abbrev pub drain_put : DrainState → DrainState
drain_put state = state

abbrev pub drain_steps : Steps DrainState
drain_steps = record { wants = drain_wants; took = drain_took; put = drain_put }
