-- The states of an arithmetic unit.
use Rattle.std.specs.Prelude.{Some, None}
use Rattle.stream_tokens.specs.declared.Token.{Token}
use Rattle.stream_tokens.specs.declared.Token.TheVariants.{Item, Empty, Stop, Done}
use Rattle.stream_tokens.specs.Nest.{leaf, leaf_of}
use Rattle.block_core.specs.declared.Wish.{Wish}
use Rattle.block_core.specs.declared.Wish.TheVariants.{Take, Put, Finished}
use Rattle.block_core.specs.Arithmetic.{Operation, combined_leaf}
use Rattle.block_core.specs.Runs.{Steps}
use Rattle.alu_array.specs.declared.alu_block.AluState.{AluState}
use Rattle.alu_array.specs.declared.alu_block.AluState.TheVariants.{First, Second, Giving, Ended}

-- the token of two: where one stops or ends, so does the other
abbrev pub combined_token : Operation → Token → Token → Token
combined_token op (Item x) b = leaf (combined_leaf op (Some x) (leaf_of b))
combined_token op Empty b = leaf (combined_leaf op None (leaf_of b))
combined_token op (Stop n) b = Stop n
combined_token op Done b = Done

abbrev pub alu_wants : AluState → Wish
alu_wants First = Take 0
alu_wants (Second a) = Take 1
alu_wants (Giving t) = Put 0 t
alu_wants Ended = Finished

abbrev pub alu_took : Operation → AluState → Token → AluState
alu_took op First t = Second t
alu_took op (Second a) t = Giving (combined_token op a t)
alu_took op (Giving u) t = Giving u
alu_took op Ended t = Ended

abbrev pub alu_after : Token → AluState
alu_after (Item x) = First
alu_after Empty = First
alu_after (Stop n) = First
alu_after Done = Ended

abbrev pub alu_put : AluState → AluState
alu_put First = First
alu_put (Second a) = Second a
alu_put (Giving t) = alu_after t
alu_put Ended = Ended

abbrev pub alu_steps : Operation → Steps AluState
alu_steps op = record { wants = alu_wants; took = alu_took op; put = alu_put }
