-- A move of one block of many.
use Rattle.std.specs.Prelude.{◌≡◌, ℕ, ◌+◌, List, set, slice_get, Some}
use Rattle.stream_tokens.specs.declared.Token.{Token}
use Rattle.block_core.specs.declared.BlockStep.{Ghosts}
use Rattle.block_core.specs.Move.{Taking, Putting}
use Rattle.block_core.specs.Ports.{Streams}
use Rattle.block_core.specs.Kind.{moves}

-- somewhere in its moves the block next takes this token
abbrev pub MayTakeAt : {B : Type 0} → Ghosts B → List B → ℕ → ℕ → Token → Type 0
MayTakeAt step blocks b port t =
    ∥ ((x : _) × (s : Streams) × (n : ℕ) × (slice_get blocks b ≡ Some x) × step.stands x s n
    × (slice_get (moves (step.kind x) s) n ≡ Some (Taking port t))) ∥₁

-- Wherever in its moves it was to take the token, it stands one move on; all others are as they were.
abbrev pub TookAt : {B : Type 0} → Ghosts B → List B → ℕ → ℕ → Token → List B → Type 0
TookAt step blocks b port t blocks' =
    (x : _) → slice_get blocks b ≡ Some x → (y : _) × (blocks' ≡ set blocks b y) × (step.kind y ≡ step.kind x)
    × ((s : Streams) (n : ℕ) → step.stands x s n → slice_get (moves (step.kind x) s) n ≡ Some (Taking port t) → step.stands y s (n + 1))

-- the same of a put
abbrev pub MayPutAt : {B : Type 0} → Ghosts B → List B → ℕ → Type 0
MayPutAt step blocks b =
    ∥ ((x : _) × (s : Streams) × (n : ℕ) × (port : ℕ) × (t : Token) × (slice_get blocks b ≡ Some x) × step.stands x s n
    × (slice_get (moves (step.kind x) s) n ≡ Some (Putting port t))) ∥₁

abbrev pub PutAt : {B : Type 0} → Ghosts B → List B → ℕ → List B → Type 0
PutAt step blocks b blocks' =
    (x : _) → slice_get blocks b ≡ Some x → (y : _) × (blocks' ≡ set blocks b y) × (step.kind y ≡ step.kind x)
    × ((s : Streams) (n : ℕ) (port : ℕ) (t : Token) → step.stands x s n → slice_get (moves (step.kind x) s) n ≡ Some (Putting port t) → step.stands y s (n + 1))
