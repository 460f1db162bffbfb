-- The steps of a writer: it takes all tokens of its one input, and puts none. The state says whether the stream ended.
use Rattle.std.specs.Prelude.{Bool, true, false}
use Rattle.stream_tokens.specs.declared.Token.{Token}
use Rattle.stream_tokens.specs.declared.Token.TheVariants.{Item, Empty, Stop, Done}
use Rattle.block_core.specs.declared.Wish.{Wish}
use Rattle.block_core.specs.declared.Wish.TheVariants.{Take, Finished}
use Rattle.block_core.specs.Runs.{Steps}

abbrev pub writer_wants : Bool → Wish
writer_wants false = Take 0
writer_wants true = Finished

abbrev pub writer_took : Bool → Token → Bool
writer_took ended (Item x) = ended
writer_took ended Empty = ended
writer_took ended (Stop n) = ended
writer_took ended Done = true

abbrev pub writer_steps : Steps Bool
writer_steps = record { wants = writer_wants; took = writer_took; put = λ ended. ended }
