-- The works of blocks, before and after.
use Rattle.std.specs.Prelude.{◌≡◌, ℕ, false, List, Some, slice_get, length}
use Rattle.std.specs.List.{All, Contains}
use Rattle.stream_tokens.specs.declared.Token.{Token}
use Rattle.block_core.specs.declared.BlockStep.{Ghosts}
use Rattle.block_core.specs.Kind.{moves}
use Rattle.block_threads.specs.declared.nest.Job.{Job}
use Rattle.block_threads.specs.declared.nest.Task.{Task}
use Rattle.block_threads.specs.declared.nest.Task.TheVariants.{Ready, Running, Ended}
use Rattle.block_threads.specs.declared.working.Worked.{Worked}
use Rattle.block_threads.specs.Ports.{streams_of, IsFresh}
use Rattle.block_threads.specs.Working.{StandsWired}

module _ {W B : Type 0} (step : Ghosts B) (streams : List (List Token)) where
  -- the block is at its start, on wires that carried nothing
  pub record IsReady (j : Job W B) : Type 0 where
    pub wired : StandsWired step streams j.block j.ins.items j.outs.items
    pub fresh_ins : All IsFresh j.ins.items
    pub fresh_outs : All IsFresh j.outs.items

  -- where nothing was lost, the block has made all its moves
  pub record EndsAs (j : Job W B) (w : Worked W B) : Type 0 where
    pub same_kind : step.kind w.block ≡ step.kind j.block
    pub finished : w.lost ≡ false → step.stands w.block (streams_of streams j.ins.items) (length (moves (step.kind j.block) (streams_of streams j.ins.items)))

  -- every job that waits is ready
  abbrev pub AreReady : List (Task W B) → Type 0
  AreReady tasks = (b : ℕ) (j : Job W B) → slice_get tasks b ≡ Some (Ready j) → IsReady j

  -- the jobs of the order have ended, and what was no job is as it was
  pub record HaveRun (order : List ℕ) (olds news : List (Task W B)) : Type 0 where
    pub number : length news ≡ length olds
    pub ran : (b : ℕ) (j : Job W B) → Contains order b → slice_get olds b ≡ Some (Ready j)
        → (w : Worked W B) × (slice_get news b ≡ Some (Ended w)) × EndsAs j w
    pub running : (b : ℕ) → slice_get olds b ≡ Some Running → slice_get news b ≡ Some Running
    pub kept : (b : ℕ) (w : Worked W B) → slice_get olds b ≡ Some (Ended w) → slice_get news b ≡ Some (Ended w)
