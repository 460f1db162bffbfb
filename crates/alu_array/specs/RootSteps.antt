-- The states of a root.
use Rattle.stream_tokens.specs.declared.Token.{Token}
use Rattle.stream_tokens.specs.declared.Token.TheVariants.{Item, Done}
use Rattle.block_core.specs.declared.Wish.{Wish}
use Rattle.block_core.specs.declared.Wish.TheVariants.{Put, Finished}
use Rattle.block_core.specs.Runs.{Steps}
use Rattle.alu_array.specs.declared.root_block.RootState.{RootState}
use Rattle.alu_array.specs.declared.root_block.RootState.TheVariants.{Reference, Ending, Ended}

abbrev pub root_wants : RootState → Wish
root_wants Reference = Put 0 (Item 0)
root_wants Ending = Put 0 Done
root_wants Ended = Finished

-- a root never takes
abbrev pub root_took : RootState → Token → RootState
root_took state t = state

abbrev pub root_put : RootState → RootState
root_put Reference = Ending
root_put Ending = Ended
root_put Ended = Ended

abbrev pub root_steps : Steps RootState
root_steps = record { wants = root_wants; took = root_took; put = root_put }
