-- How many moves the blocks of a machine make in all: a function of what the machine holds, its blocks' kinds and its
-- routes. It is never computed; a run to the end needs it as the measure of its rounds.
use Rattle.std.specs.Prelude.{ℕ, zero, suc, Bool, true, false, cond, eqb, List, [], ◌∷◌, length, get_or}
use mathlib.Core.List.{map}
use Rattle.stream_tokens.specs.declared.Token.{Token}
use Rattle.block_core.specs.Ports.{Streams, port}
use Rattle.block_core.specs.Kind.{Kind, DrainKind, moves, outputs, ins_of, outs_of}
use Rattle.plays.specs.Net.{sum_below}
use Rattle.plays.specs.Held.{Table, at_port, Held}

-- the last number below n at which f is c, and whether there is one
abbrev pub last_place : (ℕ → ℕ) → ℕ → ℕ → ℕ
last_place f zero c = 0
last_place f (suc n) c = cond (eqb (f n) c) n (last_place f n c)

abbrev pub is_among : (ℕ → ℕ) → ℕ → ℕ → Bool
is_among f zero c = false
is_among f (suc n) c = cond (eqb (f n) c) true (is_among f n c)

-- the last block below n that puts on the channel
abbrev pub putter_of : (ℕ → Kind) → Table → ℕ → ℕ → ℕ
putter_of kind outs zero c = 0
putter_of kind outs (suc n) c = cond (is_among (at_port outs n) (outs_of (kind n)) c) n (putter_of kind outs n c)

-- the streams of so many channels, from a port on
abbrev pub inputs_from : (ℕ → List Token) → (ℕ → ℕ) → ℕ → ℕ → Streams
inputs_from f at p zero = []
inputs_from f at p (suc n) = f (at p) ∷ inputs_from f at (suc p) n

-- the stream of a channel, as its block gives it from streams that so many blocks led to
abbrev pub read_stream_after : ℕ → (ℕ → Kind) → Table → Table → ℕ → ℕ → List Token
read_stream_after blocks kind ins outs zero c = []
read_stream_after blocks kind ins outs (suc n) c =
    port (last_place (at_port outs (putter_of kind outs blocks c)) (outs_of (kind (putter_of kind outs blocks c))) c)
    (outputs (kind (putter_of kind outs blocks c))
    (inputs_from (read_stream_after blocks kind ins outs n) (at_port ins (putter_of kind outs blocks c)) 0 (ins_of (kind (putter_of kind outs blocks c)))))

-- the moves of all blocks
abbrev pub count_of_moves : ℕ → (ℕ → Kind) → Table → Table → ℕ
count_of_moves blocks kind ins outs =
    sum_below blocks (λ b. length (moves (kind b) (inputs_from (read_stream_after blocks kind ins outs blocks) (at_port ins b) 0 (ins_of (kind b)))))

-- the kind of a block
abbrev pub kind_at : List Kind → ℕ → Kind
kind_at kinds b = get_or kinds b DrainKind

abbrev pub all_moves : {B : Type 0} → (B → Kind) → Held B → ℕ
all_moves kind m = count_of_moves (length m.blocks) (kind_at (map kind m.blocks)) m.routes.ins m.routes.outs
