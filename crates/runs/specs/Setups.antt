-- What the options come to for a graph: the capacities of its channels, and the schedule that is played first.
use Rattle.std.specs.Prelude.{◌<◌, ℕ, List, [], Option, Some, None, Result, Ok, All, length}
use Rattle.sam_base.specs.declared.faults.Fault.{Fault}
use Rattle.graph.specs.declared.graphs.Graph.{Graph}
use Rattle.stepper.specs.Capacity.{CapacitiesFor}
use Rattle.parts.specs.Parts.{Part, gives, followed, reads}
use Rattle.schedules.specs.Schedules.{schedule_in}
use Rattle.words.specs.declared.asking.Options.{Options}
use Rattle.runs.specs.declared.setup.Setup.{Setup}
use Rattle.runs.specs.Capacities.{capacities_of}

-- a capacity for each channel, and a schedule of blocks that are there
pub record SetupFits (g : Graph) (setup : Setup) : Type 0 where
  pub capacities : CapacitiesFor (length g.channels) setup.capacities.each
  pub schedule : All (λ block. block < length g.blocks) setup.schedule

-- the schedule of a file, for so many blocks; with no file it is empty
abbrev pub schedule_part : ℕ → Option (List ℕ) → Part (List ℕ)
schedule_part blocks None = gives (Ok [])
schedule_part blocks (Some name) = followed (reads name) (λ text. gives (schedule_in blocks text))

abbrev pub with_schedule : ℕ → Option (List ℕ) → List (Option ℕ) → Part Setup
with_schedule blocks name each =
    followed (schedule_part blocks name) (λ schedule.
    gives (Ok (record { capacities = record { each = each }; schedule = schedule })))

-- the capacities that the options give the channels of a graph
abbrev pub given_to : Graph → Options → Result (List (Option ℕ)) Fault
given_to g options = capacities_of (length g.channels) options.capacity options.own

-- first the capacities, then the schedule
abbrev pub setup_part : Graph → Options → Part Setup
setup_part g options = followed (gives (given_to g options)) (with_schedule (length g.blocks) options.schedule)
