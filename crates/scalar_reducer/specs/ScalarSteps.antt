-- The states of a scalar reducer: what each wants, and where a taken or a put token leads.
use Rattle.std.specs.Prelude.{ℕ, zero, suc, Some, None}
use Rattle.stream_tokens.specs.declared.Token.{Token}
use Rattle.stream_tokens.specs.declared.Token.TheVariants.{Item, Empty, Stop, Done}
use Rattle.stream_tokens.specs.Nest.{Leaf, leaf}
use Rattle.block_core.specs.declared.Wish.{Wish}
use Rattle.block_core.specs.declared.Wish.TheVariants.{Take, Put, Finished}
use Rattle.block_core.specs.Arithmetic.{combined_leaf, Plus}
use Rattle.block_core.specs.Runs.{Steps}
use Rattle.scalar_reducer.specs.declared.scalar.ScalarState.{ScalarState}
use Rattle.scalar_reducer.specs.declared.scalar.ScalarState.TheVariants.{Outer, Summing, Summed, Closing, Beside, Passing, Ended}

abbrev pub scalar_wants : ScalarState → Wish
scalar_wants Outer = Take 0
scalar_wants (Summing sum) = Take 1
scalar_wants (Summed sum n) = Put 0 (leaf sum)
scalar_wants Closing = Take 0
scalar_wants (Beside t) = Take 1
scalar_wants (Passing t) = Put 0 t
scalar_wants Ended = Finished

abbrev pub scalar_outer_took : Token → ScalarState
scalar_outer_took (Item x) = Summing None
scalar_outer_took Empty = Summing None
scalar_outer_took (Stop n) = Beside (Stop n)
scalar_outer_took Done = Beside Done

abbrev pub scalar_summing_took : Leaf → Token → ScalarState
scalar_summing_took sum (Item value) = Summing (combined_leaf Plus sum (Some value))
scalar_summing_took sum Empty = Summing sum
scalar_summing_took sum (Stop n) = Summed sum n
scalar_summing_took sum Done = Ended

abbrev pub scalar_took : ScalarState → Token → ScalarState
scalar_took Outer t = scalar_outer_took t
scalar_took (Summing sum) t = scalar_summing_took sum t
scalar_took (Summed sum n) t = Summed sum n
scalar_took Closing t = Passing t
scalar_took (Beside held) t = Passing held
scalar_took (Passing u) t = Passing u
scalar_took Ended t = Ended

abbrev pub scalar_summed_put : ℕ → ScalarState
scalar_summed_put zero = Outer
scalar_summed_put (suc n) = Closing

abbrev pub scalar_passing_put : Token → ScalarState
scalar_passing_put (Item x) = Outer
scalar_passing_put Empty = Outer
scalar_passing_put (Stop n) = Outer
scalar_passing_put Done = Ended

abbrev pub scalar_put : ScalarState → ScalarState
scalar_put Outer = Outer
scalar_put (Summing sum) = Summing sum
scalar_put (Summed sum n) = scalar_summed_put n
scalar_put Closing = Closing
scalar_put (Beside t) = Beside t
scalar_put (Passing t) = scalar_passing_put t
scalar_put Ended = Ended

abbrev pub scalar_steps : Steps ScalarState
scalar_steps = record { wants = scalar_wants; took = scalar_took; put = scalar_put }
