-- What a machine holds.
use Rattle.std.specs.Prelude.{ℕ, ◌+◌, List, Option, get_or}
use Rattle.stream_tokens.specs.declared.Token.{Token}

-- the tokens that wait on a channel, and how many may wait, if there is a limit
pub record Queued : Type 0 where
  pub tokens : List Token
  pub room : Option ℕ

-- the channels at the ports of all blocks, one after another, and the place of each block's first
pub record Table : Type 0 where
  pub first : List ℕ
  pub channels : List ℕ

abbrev pub at_port : Table → ℕ → ℕ → ℕ
at_port t b p = get_or t.channels (get_or t.first b 0 + p) 0

-- the channels at the inputs and at the outputs, and the order in which blocks are visited
pub record Routes : Type 0 where
  pub ins : Table
  pub outs : Table
  pub order : List ℕ

-- the blocks of a machine, what waits on each channel, the number of events so far and the routes
pub record Held (B : Type 0) : Type 0 where
  pub blocks : List B
  pub queues : List Queued
  pub moves : ℕ
  pub routes : Routes
