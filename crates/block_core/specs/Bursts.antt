-- Several moves of a block at its ports.
use Rattle.std.specs.Prelude.{◌≡◌, ◌≤◌, ℕ, ◌+◌, Bool, true, List, [], ◌∷◌, ◌++◌, take, drop}
use Rattle.stream_tokens.specs.declared.Token.{Token}
use Rattle.block_core.specs.Move.{Move, Taking, Putting}
use Rattle.block_core.specs.Ports.{Streams}
use Rattle.block_core.specs.Kind.{Kind, moves}

-- the next move takes from this port, or puts this token on it
abbrev pub MayTakeNext : (List Move → Type 0) → ℕ → Type 0
MayTakeNext fed port = ∥ ((t : Token) × (rest : List Move) × fed (Taking port t ∷ rest)) ∥₁

abbrev pub MayPutNext : (List Move → Type 0) → ℕ → Token → Type 0
MayPutNext fed port t = ∥ ((rest : List Move) × fed (Putting port t ∷ rest)) ∥₁

-- each token is taken from one port, and another is put for it
abbrev pub relayed : ℕ → ℕ → List Token → List Token → List Move
relayed from to [] us = []
relayed from to (t ∷ ts) [] = []
relayed from to (t ∷ ts) (u ∷ us) = Taking from t ∷ Putting to u ∷ relayed from to ts us

abbrev pub MayRelay : (List Move → Type 0) → ℕ → ℕ → List Token → List Token → Type 0
MayRelay fed from to ts us = ∥ ((rest : List Move) × fed (relayed from to ts us ++ rest)) ∥₁

-- somewhere in its moves the block stands, and its ports are those of one that has the others before it
abbrev pub MayPour : {B P : Type 0} → (B → Kind) → (B → Streams → ℕ → Type 0) → (P → List Move → Type 0) → B → P → Type 0
MayPour kind stands fed b p = ∥ ((s : Streams) × (n : ℕ) × stands b s n × fed p (drop n (moves (kind b) s))) ∥₁

-- Wherever in its moves the block stood with such ports, it stands some moves on, and just these were made at its ports.
abbrev pub Poured : {B P : Type 0} → (B → Kind) → (B → Streams → ℕ → Type 0) → (P → List Move → Type 0) → (P → List Move → P → Type 0)
    → B → P → B → P → Bool → Type 0
Poured kind stands fed did b p b' p' went =
    (s : Streams) (n : ℕ) → stands b s n → fed p (drop n (moves (kind b) s))
    → (k : ℕ) × (went ≡ true → 1 ≤ k) × stands b' s (n + k) × did p (take k (drop n (moves (kind b) s))) p'
