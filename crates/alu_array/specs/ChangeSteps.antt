-- The states of a block that puts each token changed.
use Rattle.std.specs.Prelude.{ℕ}
use Rattle.stream_tokens.specs.declared.Token.{Token}
use Rattle.stream_tokens.specs.declared.Token.TheVariants.{Item, Empty, Stop, Done}
use Rattle.block_core.specs.declared.Wish.{Wish}
use Rattle.block_core.specs.declared.Wish.TheVariants.{Take, Put, Finished}
use Rattle.block_core.specs.Change.{on_item}
use Rattle.block_core.specs.Runs.{Steps}
use Rattle.alu_array.specs.declared.change.ChangeState.{ChangeState}
use Rattle.alu_array.specs.declared.change.ChangeState.TheVariants.{Wanting, Giving, Ended}

abbrev pub change_wants : ChangeState → Wish
change_wants Wanting = Take 0
change_wants (Giving t) = Put 0 t
change_wants Ended = Finished

-- a token came, and this is what becomes of it
abbrev pub change_gives : ChangeState → Token → ChangeState
change_gives Wanting t = Giving t
change_gives (Giving u) t = Giving u
change_gives Ended t = Ended

abbrev pub change_after : Token → ChangeState
change_after (Item x) = Wanting
change_after Empty = Wanting
change_after (Stop n) = Wanting
change_after Done = Ended

abbrev pub change_put : ChangeState → ChangeState
change_put Wanting = Wanting
change_put (Giving t) = change_after t
change_put Ended = Ended

-- each number x becomes f x
abbrev pub change_steps : (ℕ → ℕ) → Steps ChangeState
change_steps f = record { wants = change_wants; took = λ state t. change_gives state (on_item f t); put = change_put }
