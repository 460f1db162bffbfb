-- The moves take whole streams and put whole streams, token by token.
use Rattle.std.specs.Prelude.{◌≡◌, ◌≤◌, ◌↔◌, ℕ, zero, suc, ◌+◌, List, [], ◌∷◌, length, take, drop}
use Rattle.stream_tokens.specs.declared.Token.{Token}
use Rattle.block_core.specs.declared.Wish.TheVariants.{Finished}
use Rattle.block_core.specs.Move.{Move, Taking, Putting, wish_of, takes, puts}
use Rattle.block_core.specs.Ports.{Streams, port}

-- no token is left
abbrev pub NoTokens : Streams → Type 0
NoTokens [] = Unit {0}
NoTokens ([] ∷ ss) = NoTokens ss
NoTokens ((t ∷ s) ∷ ss) = ⊥

-- t is the first token of the stream at port p, and the streams without it are as `after` says
abbrev pub Front : ℕ → Token → Streams → (Streams → Type 0) → Type 0
Front p t [] after = ⊥
Front zero t ([] ∷ ss) after = ⊥
Front zero t ((u ∷ s) ∷ ss) after = (u ≡ t) × after (s ∷ ss)
Front (suc p) t (s ∷ ss) after = Front p t ss (λ r. after (s ∷ r))

-- each move takes the first token that is left of an input, or puts the first that is left of an output, until none is
abbrev pub Flows : List Move → Streams → Streams → Type 0
Flows [] ins outs = NoTokens ins × NoTokens outs
Flows (Taking p t ∷ ms) ins outs = Front p t ins (λ r. Flows ms r outs)
Flows (Putting p t ∷ ms) ins outs = Front p t outs (λ r. Flows ms ins r)

-- the tokens of all streams together
abbrev pub token_total : Streams → ℕ
token_total [] = 0
token_total (s ∷ ss) = length s + token_total ss

-- these moves have taken all of the inputs and put all of the outputs
pub record Through (ins : Streams) (ms : List Move) (outs : Streams) : Type 0 where
  pub taken : (p : ℕ) → takes p ms ≡ port p ins
  pub put : (p : ℕ) → puts p ms ≡ port p outs

-- Port by port the moves take the inputs and put the outputs, they are as many as there are tokens in all, and no fewer
-- of them come to that end.
pub record Passes (ins : Streams) (ms : List Move) (outs : Streams) : Type 0 where
  pub through : Through ins ms outs
  pub number : length ms ≡ token_total ins + token_total outs
  pub ends : (n : ℕ) → n ≤ length ms → (wish_of (drop n ms) ≡ Finished) ↔ Through ins (take n ms) outs
