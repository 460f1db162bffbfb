-- Where the work of a block is.
use Rattle.std.specs.Prelude.{◌≡◌, ℕ, false, List, Some, slice_get, length, take}
use Rattle.stream_tokens.specs.declared.Token.{Token}
use Rattle.block_core.specs.declared.BlockStep.{Ghosts}
use Rattle.block_core.specs.Move.{Move, takes, puts}
use Rattle.block_core.specs.Ports.{AllStreams}
use Rattle.block_core.specs.Kind.{moves, outputs}
use Rattle.ruled_wires.specs.Ends.{End}
use Rattle.block_threads.specs.Ports.{channels_of, streams_of}

-- so many tokens went through each port's end, and no Lost
abbrev pub HaveCounts : (ℕ → ℕ) → List End → Type 0
HaveCounts count es = (p : ℕ) (e : End) → slice_get es p ≡ Some e → (e.count ≡ count p) × (e.lost ≡ false)

-- so many were taken from each input, and put on each output, by the first moves
abbrev pub taken_after : List Move → ℕ → ℕ → ℕ
taken_after ms n p = length (takes p (take n ms))

abbrev pub put_after : List Move → ℕ → ℕ → ℕ
put_after ms n p = length (puts p (take n ms))

-- The block stands at its start on the streams of its input wires, and the streams of its output wires are those that its
-- kind gives from them.
pub record StandsWired {B : Type 0} (step : Ghosts B) (streams : List (List Token)) (block : B) (ins outs : List End) : Type 0 where
  pub stands : step.stands block (streams_of streams ins) 0
  pub gives : streams_of streams outs ≡ outputs (step.kind block) (streams_of streams ins)
  pub whole : AllStreams (streams_of streams outs)

-- The first n moves of the block were made on its wires.
pub record HasMoved {B : Type 0} (step : Ghosts B) (streams : List (List Token)) (block : B) (ins outs : List End)
    (n : ℕ) (block' : B) (ins' outs' : List End) : Type 0 where
  pub same_kind : step.kind block' ≡ step.kind block
  pub same_refusal : step.may_refuse block' ≡ step.may_refuse block
  pub stands : step.stands block' (streams_of streams ins) n
  pub same_ins : channels_of ins' ≡ channels_of ins
  pub same_outs : channels_of outs' ≡ channels_of outs
  pub taken : HaveCounts (taken_after (moves (step.kind block) (streams_of streams ins)) n) ins'
  pub put : HaveCounts (put_after (moves (step.kind block) (streams_of streams ins)) n) outs'
