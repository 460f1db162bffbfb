-- The streams at a block's ports, and what their tokens stand for.
use Rattle.std.specs.Prelude.{ℕ, List, [], ◌∷◌, Some, None, get_or}
use Rattle.stream_tokens.specs.declared.Token.{Token}
use Rattle.stream_tokens.specs.declared.Token.TheVariants.{Item}
use Rattle.stream_tokens.specs.Nest.{Leaf, leaf, Fiber, IsStream}
use Rattle.stream_tokens.specs.Flat.{fibers_of}
use Rattle.stream_tokens.specs.Shapes.{on_tokens}
use Rattle.block_core.specs.Move.{columns}

-- a whole stream for each port
abbrev pub Streams : Type 0
Streams = List (List Token)

-- the stream at a port
abbrev pub port : ℕ → Streams → List Token
port p ss = get_or ss p []

-- the streams at so many ports, from the first on
abbrev pub ports : ℕ → ℕ → Streams → Streams
ports first n ss = columns (λ p. port p ss) first n

-- each is the stream of a tree
abbrev pub AllStreams : Streams → Type 0
AllStreams [] = Unit {0}
AllStreams (s ∷ ss) = IsStream s × AllStreams ss

-- the number of a token of coordinates, which is never empty
abbrev pub number : Leaf → ℕ
number None = 0
number (Some n) = n

-- the fibers of a stream of coordinates
abbrev pub numbers_of : List Token → List (Fiber ℕ)
numbers_of s = on_tokens number (fibers_of s)

-- tokens of coordinates, and of what stands first or second in pairs
abbrev pub first_item : {B : Type 0} → ℕ × B → Token
first_item p = Item p.0

abbrev pub first_leaf : {B : Type 0} → Leaf × B → Token
first_leaf p = leaf p.0

abbrev pub second_leaf : {A : Type 0} → A × Leaf → Token
second_leaf p = leaf p.1

abbrev pub second : {A B : Type 0} → A × B → B
second p = p.1

abbrev pub same : {A : Type 0} → A → A
same x = x
