-- The wires of a graph, and the streams that they carry.
use Rattle.std.specs.Prelude.{◌≡◌, ◌<◌, ◌≤◌, ℕ, zero, suc, List, [], map, length, slice_get, Some, Option}
use Rattle.std.specs.List.{range_with_len}
use Rattle.stream_tokens.specs.declared.Token.{Token}
use Rattle.block_core.specs.Ports.{port}
use Rattle.block_core.specs.Kind.{Kind, outputs}
use Rattle.graph.specs.declared.graphs.Graph.{Graph}
use Rattle.graph.specs.Wiring.{block, channel}
use Rattle.stepper.specs.AllMoves.{kind_at}
use Rattle.ruled_wires.specs.Ends.{End, fresh_end}

-- the stream of a channel, as the kinds of the blocks give it from streams that so many blocks led to
abbrev pub wired_stream_after : List Kind → Graph → ℕ → ℕ → List Token
wired_stream_after kinds g zero c = []
wired_stream_after kinds g (suc n) c =
    port (channel g c).from_port
    (outputs (kind_at kinds (channel g c).from_block) (map (wired_stream_after kinds g n) (block g (channel g c).from_block).ins))

-- the streams of all channels
abbrev pub wired_streams : List Kind → Graph → List (List Token)
wired_streams kinds g = map (wired_stream_after kinds g (length g.blocks)) (range_with_len 0 (length g.channels))

-- the end of a channel waits at its place
abbrev pub EndWaits : List (Option End) → ℕ → Type 0
EndWaits ends c = slice_get ends c ≡ Some (Some (fresh_end c))

-- The ends of all wires wait, except those of the blocks before b.
pub record WaitFrom (g : Graph) (b : ℕ) (senders receivers : List (Option End)) : Type 0 where
  pub sends : (c : ℕ) → c < length g.channels → b ≤ (channel g c).from_block → EndWaits senders c
  pub receives : (c : ℕ) → c < length g.channels → b ≤ (channel g c).to_block → EndWaits receivers c

-- A block has the ends of its wires in port order, and nothing went through them.
pub record HasWires (g : Graph) (b : ℕ) (ins outs : List End) : Type 0 where
  pub inputs : ins ≡ map fresh_end (block g b).ins
  pub outputs : outs ≡ map fresh_end (block g b).outs
