-- Where a run of a graph that computes a program's tensor ends, and what is answered there.
use Rattle.std.specs.Prelude.{◌≡◌, ◌⊎◌, ℕ, List, Option, Result, Ok, Err, length}
use Rattle.sam_base.specs.declared.faults.Fault.{Fault}
use Rattle.sam_base.specs.declared.faults.Fault.TheVariants.{Stalled}
use Rattle.sam_model.specs.declared.tensors.Entries.{Entries}
use Rattle.sam_model.specs.declared.tensors.Written.{Written}
use Rattle.sam_model.specs.declared.program.Program.{Program}
use Rattle.sam_model.specs.Children.{Ranked}
use Rattle.graph.specs.declared.graphs.Graph.{Graph}
use Rattle.graph.specs.Writers.{written_listing}
use Rattle.plays.specs.Net.{Net, State, Finished}
use Rattle.stepper.specs.NetOf.{net_of, rooms_of}
use Rattle.stepper.specs.Endings.{waiting_list, EndsAt, StallsAt}
use Rattle.custard_lower.specs.Lowered.{Computes, storages_of}
use Rattle.parts.specs.Parts.{Part}
use Rattle.runs.specs.Results.{Entry, result_of}
use Rattle.runs.specs.declared.running.Outcome.{Outcome}
use Rattle.runs.specs.declared.running.Outcome.TheVariants.{Listing, Waits}

-- what is answered at that state: the tensor that the statement denotes where all blocks are finished, else the blocks that wait
abbrev pub AnsweredAt : Program → List Entries → Net → State → Result (List Entry) Fault → Type 0
AnsweredAt p es net end answer =
    (Finished net end × (answer ≡ result_of p es)) ⊎ (¬ Finished net end × (answer ≡ Err (Stalled (waiting_list net end))))

-- A run of such a graph over the program's entries, under these capacities, whatever was played first.
pub record RunsTo (p : Program) (g : Graph) (es : List Entries) (caps : List (Option ℕ)) (answer : Result (List Entry) Fault) : Type 0 where
  pub computes : Computes p g
  pub each : length es ≡ length p.tensors
  pub end : State
  pub ends : EndsAt (net_of (storages_of p es) g) (rooms_of caps) end
  pub answered : AnsweredAt p es (net_of (storages_of p es) g) end answer

abbrev pub run_part : Program → Graph → List Entries → List (Option ℕ) → Part (List Entry)
run_part p g es caps told answer = RunsTo p g es caps answer

-- ---- as the machine leaves it

-- the run of a graph over what is stored ended with this listing
pub record LeavesListing (storages : List Ranked) (g : Graph) (caps : List (Option ℕ)) (levels : ℕ) (w : Written) : Type 0 where
  pub end : State
  pub ends : EndsAt (net_of storages g) (rooms_of caps) end
  pub finished : Finished (net_of storages g) end
  pub written : w ≡ written_listing storages g levels

abbrev pub Leaves : List Ranked → Graph → List (Option ℕ) → ℕ → Outcome → Type 0
Leaves storages g caps levels (Listing w) = LeavesListing storages g caps levels w
Leaves storages g caps levels (Waits list) = StallsAt (net_of storages g) (rooms_of caps) list
