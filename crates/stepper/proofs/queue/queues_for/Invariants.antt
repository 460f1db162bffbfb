use Rattle.std.proofs.Common.{◌≡◌, ℕ, [], length, slice_get, get_or, Some, None}
use Rattle.plays.specs.Held.{Queued}
use Rattle.stepper.proofs.queue.queues_for.Given as goal

abbrev pub invariant-loop-room : goal.invariant-loop-room
invariant-loop-room l =
    (length l.queues.items ≡ l.room-index)
    × ((c : ℕ) (q : Queued) → slice_get l.queues.items c ≡ Some q → (q.tokens ≡ []) × (q.room ≡ get_or l.room-items c None))
