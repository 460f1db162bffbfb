-- When a block may take a token or put one: somewhere in the moves of its kind it stands before just that.
use Rattle.std.specs.Prelude.{◌≡◌, ℕ, ◌+◌, Some, slice_get}
use Rattle.stream_tokens.specs.declared.Token.{Token}
use Rattle.block_core.specs.Move.{Taking, Putting}
use Rattle.block_core.specs.Ports.{Streams}
use Rattle.block_core.specs.Kind.{Kind, moves}

abbrev pub MayTake : (Streams → ℕ → Type 0) → Kind → ℕ → Token → Type 0
MayTake stands kind port t = ∥ ((s : Streams) × (n : ℕ) × stands s n × (slice_get (moves kind s) n ≡ Some (Taking port t))) ∥₁

abbrev pub MayPut : (Streams → ℕ → Type 0) → Kind → Type 0
MayPut stands kind = ∥ ((s : Streams) × (n : ℕ) × (port : ℕ) × (t : Token) × stands s n × (slice_get (moves kind s) n ≡ Some (Putting port t))) ∥₁

-- Where a block stood before such a take, or before a put, it stands after it, one move further.
abbrev pub StandsAfterTake : (Streams → ℕ → Type 0) → (Streams → ℕ → Type 0) → Kind → ℕ → Token → Type 0
StandsAfterTake stands stands' kind port t =
    (s : Streams) (n : ℕ) → stands s n → slice_get (moves kind s) n ≡ Some (Taking port t) → stands' s (n + 1)

abbrev pub StandsAfterPut : (Streams → ℕ → Type 0) → (Streams → ℕ → Type 0) → Kind → Type 0
StandsAfterPut stands stands' kind =
    (s : Streams) (n : ℕ) (port : ℕ) (t : Token) → stands s n → slice_get (moves kind s) n ≡ Some (Putting port t) → stands' s (n + 1)
