-- What trials of capacities tell.
use Rattle.std.specs.Prelude.{ℕ}
use Rattle.stepper.specs.declared.machine.finish.Ending.{Ending}
use Rattle.stepper.specs.declared.machine.finish.Ending.TheVariants.{Finished, Stalled}
use Rattle.plays.specs.Net.{Net, Suffices, all_channels}
use Rattle.sam_sizing.specs.declared.bounds.Bounds.{Bounds}
use Rattle.stepper.specs.Endings.{StallsAt}
use Rattle.sam_sizing.specs.Least.{StallsUpTo}

-- a run that finishes shows that the capacity suffices; one that stalls has the list of what waits
abbrev pub EndsAs : Net → ℕ → Ending → Type 0
EndsAs net capacity Finished = Suffices net capacity
EndsAs net capacity (Stalled list) = StallsAt net (all_channels capacity) list

-- the least capacity is above the low one and at most the high one
pub record LiesWithin (net : Net) (bounds : Bounds) : Type 0 where
  pub low : StallsUpTo net bounds.low bounds.below
  pub high : Suffices net bounds.high
