-- The states of a fiber dropper.
use Rattle.std.specs.Prelude.{ℕ, zero, suc, Bool, true, false}
use Rattle.stream_tokens.specs.declared.Token.{Token}
use Rattle.stream_tokens.specs.declared.Token.TheVariants.{Item, Empty, Stop, Done}
use Rattle.block_core.specs.declared.Wish.{Wish}
use Rattle.block_core.specs.declared.Wish.TheVariants.{Take, Put, Finished}
use Rattle.block_core.specs.Runs.{Steps}
use Rattle.shape_blocks.specs.declared.drop_fiber.DropFiberState.{DropFiberState}
use Rattle.shape_blocks.specs.declared.drop_fiber.DropFiberState.TheVariants.{Outer, First, Keeping, Between, Inner, Rest, Closing, Beside, Both, Second, Ended}

abbrev pub drop_fiber_wants : DropFiberState → Wish
drop_fiber_wants (Outer kept) = Take 0
drop_fiber_wants (First kept a) = Take 1
drop_fiber_wants (Keeping kept a t) = Put 0 a
drop_fiber_wants (Between t) = Put 1 (Stop 0)
drop_fiber_wants (Inner t) = Put 1 t
drop_fiber_wants Rest = Take 1
drop_fiber_wants (Closing stop) = Take 0
drop_fiber_wants (Beside t) = Take 1
drop_fiber_wants (Both t u) = Put 0 t
drop_fiber_wants (Second u) = Put 1 u
drop_fiber_wants Ended = Finished

abbrev pub fiber_stopped : Bool → ℕ → DropFiberState
fiber_stopped kept zero = Outer kept
fiber_stopped kept (suc k) = Closing (Stop (suc k))

abbrev pub drop_fiber_outer_took : Bool → Token → DropFiberState
drop_fiber_outer_took kept (Item a) = First kept (Item a)
drop_fiber_outer_took kept Empty = First kept Empty
drop_fiber_outer_took kept (Stop n) = Beside (Stop n)
drop_fiber_outer_took kept Done = Beside Done

abbrev pub first_took : Bool → Token → Token → DropFiberState
first_took kept a (Item c) = Keeping kept a (Item c)
first_took kept a Empty = Keeping kept a Empty
first_took kept a (Stop n) = fiber_stopped kept n
first_took kept a Done = Ended

abbrev pub rest_took : Token → DropFiberState
rest_took (Item c) = Inner (Item c)
rest_took Empty = Inner Empty
rest_took (Stop n) = fiber_stopped true n
rest_took Done = Ended

abbrev pub drop_fiber_took : DropFiberState → Token → DropFiberState
drop_fiber_took (Outer kept) t = drop_fiber_outer_took kept t
drop_fiber_took (First kept a) t = first_took kept a t
drop_fiber_took (Keeping kept a u) t = Keeping kept a u
drop_fiber_took (Between u) t = Between u
drop_fiber_took (Inner u) t = Inner u
drop_fiber_took Rest t = rest_took t
drop_fiber_took (Closing stop) t = Both t stop
drop_fiber_took (Beside u) t = Both u t
drop_fiber_took (Both u v) t = Both u v
drop_fiber_took (Second u) t = Second u
drop_fiber_took Ended t = Ended

abbrev pub drop_fiber_kept_put : Bool → Token → DropFiberState
drop_fiber_kept_put true t = Between t
drop_fiber_kept_put false t = Inner t

abbrev pub drop_fiber_second_put : Token → DropFiberState
drop_fiber_second_put (Item c) = Outer false
drop_fiber_second_put Empty = Outer false
drop_fiber_second_put (Stop n) = Outer false
drop_fiber_second_put Done = Ended

abbrev pub drop_fiber_put : DropFiberState → DropFiberState
drop_fiber_put (Outer kept) = Outer kept
drop_fiber_put (First kept a) = First kept a
drop_fiber_put (Keeping kept a t) = drop_fiber_kept_put kept t
drop_fiber_put (Between t) = Inner t
drop_fiber_put (Inner t) = Rest
drop_fiber_put Rest = Rest
drop_fiber_put (Closing stop) = Closing stop
drop_fiber_put (Beside t) = Beside t
drop_fiber_put (Both t u) = Second u
drop_fiber_put (Second u) = drop_fiber_second_put u
drop_fiber_put Ended = Ended

abbrev pub drop_fiber_steps : Steps DropFiberState
drop_fiber_steps = record { wants = drop_fiber_wants; took = drop_fiber_took; put = drop_fiber_put }
