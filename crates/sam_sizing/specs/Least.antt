-- The least capacity that suffices, and what waits with one less.
use Rattle.std.specs.Prelude.{◌≡◌, ◌<◌, ◌≤◌, ◌-◌, ℕ, zero, suc, List, []}
use Rattle.sam_base.specs.declared.faults.Waiting.{Waiting}
use Rattle.plays.specs.Net.{Net, Suffices, all_channels}
use Rattle.stepper.specs.Endings.{StallsAt}
use Rattle.sam_sizing.specs.declared.least.Least.{Least}
use Rattle.sam_sizing.specs.declared.least.Least.TheVariants.{Found, Above}

-- plays with this capacity on every channel end with these blocks waiting, where 0 stands for no capacity and no block
abbrev pub StallsUpTo : Net → ℕ → List Waiting → Type 0
StallsUpTo net zero list = list ≡ []
StallsUpTo net (suc n) list = StallsAt net (all_channels (suc n)) list

-- This capacity suffices and no smaller one does; the list is that of the blocks that wait with one less.
pub record IsLeastWith (net : Net) (top capacity : ℕ) (list : List Waiting) : Type 0 where
  pub top_suffices : Suffices net top
  pub some : 1 ≤ capacity
  pub most : capacity ≤ top
  pub suffices : Suffices net capacity
  pub no_smaller : (n : ℕ) → 1 ≤ n → n < capacity → ¬ Suffices net n
  pub stalls_below : StallsUpTo net (capacity - 1) list

-- the least capacity where the top one suffices, and else what waits with the top one
abbrev pub IsLeast : Net → ℕ → Least → Type 0
IsLeast net top (Found capacity below) = IsLeastWith net top capacity below
IsLeast net top (Above list) = StallsAt net (all_channels top) list
