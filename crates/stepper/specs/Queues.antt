-- What a queue holds.
use Rattle.std.specs.Prelude.{◌≤◌, Some, None}
use Rattle.std.specs.VecDeque.{deque_capacity}
use Rattle.plays.specs.Held.{Queued}
use Rattle.stepper.specs.declared.queue.Tokens.{Tokens}
use Rattle.stepper.specs.declared.queue.Tokens.TheVariants.{Bounded, Unbounded}

-- the tokens that wait, and how many may wait
abbrev pub queued : Tokens → Queued
queued (Bounded tokens most) = record { tokens = tokens.items; room = Some most }
queued (Unbounded line) = record { tokens = line; room = None }

-- a token for which there is room needs no more memory
abbrev pub HasItsMemory : Tokens → Type 0
HasItsMemory (Bounded tokens most) = most ≤ deque_capacity tokens
HasItsMemory (Unbounded line) = Unit {0}
