-- How a run ends.
use Rattle.std.specs.Prelude.{◌≡◌, ℕ, zero, suc, List, [], ◌∷◌, ◌++◌, slice_get, Option, Some, None, true, false}
use Rattle.sam_base.specs.declared.faults.Waiting.{Waiting}
use Rattle.block_core.specs.Move.{Move, Taking, Putting}
use Rattle.sam_model.specs.Children.{Ranked}
use Rattle.block_core.specs.declared.BlockStep.{Ghosts}
use Rattle.graph.specs.declared.graphs.Graph.{Graph}
use Rattle.graph.specs.Standing.{StandAt, final_position}
use Rattle.plays.specs.Net.{Net, Rooms, State, Reached, Stuck, Finished}
use Rattle.plays.specs.Held.{Held}
use Rattle.stepper.specs.AtState.{AtState, Wherever}

-- a block that isn't finished, and the channel of its next move: full where it would put a token, and else empty
abbrev pub waiting_for : Net → ℕ → Option Move → List Waiting
waiting_for net b None = []
waiting_for net b (Some (Taking p t)) = record { block = b; channel = net.into b p; full = false } ∷ []
waiting_for net b (Some (Putting p t)) = record { block = b; channel = net.out_of b p; full = true } ∷ []

-- the unfinished ones of so many blocks, ascending
abbrev pub waiting_below : Net → State → ℕ → List Waiting
waiting_below net s zero = []
waiting_below net s (suc n) = waiting_below net s n ++ waiting_for net n (slice_get (net.moves n) (s n))

abbrev pub waiting_list : Net → State → List Waiting
waiting_list net s = waiting_below net s net.blocks

-- a state in which plays under these limits end: one reaches it, and no block can move there
pub record EndsAt (net : Net) (rooms : Rooms) (end : State) : Type 0 where
  pub reached : Reached net rooms end
  pub stuck : Stuck net rooms end

-- they end unfinished, and these are the blocks that wait there
pub record StallsAt (net : Net) (rooms : Rooms) (list : List Waiting) : Type 0 where
  pub end : State
  pub ends : EndsAt net rooms end
  pub unfinished : ¬ Finished net end
  pub waiting : list ≡ waiting_list net end

-- the blocks that aren't finished are these, and there is one
abbrev pub StallsWith : {B : Type 0} → Ghosts B → List Waiting → Held B → Type 0
StallsWith step list m = Wherever step m (λ net rooms s. (list ≡ waiting_list net s) × (Finished net s → ⊥))

-- every block is at the end of its moves
abbrev pub BlocksAtEnd : {B : Type 0} → Ghosts B → Held B → Type 0
BlocksAtEnd step m =
    (storages : List Ranked) (g : Graph) (caps : List (Option ℕ)) (s : State) → AtState step storages g caps s m
    → StandAt step.kind step.stands storages g (final_position storages g) m.blocks
