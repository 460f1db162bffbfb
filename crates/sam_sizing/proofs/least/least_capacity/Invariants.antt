use Rattle.std.proofs.Common.{◌<◌, ◌≤◌, ◌-◌}
use Rattle.sam_sizing.specs.Makers.{WhateverStored}
use Rattle.sam_sizing.specs.Least.{StallsUpTo}
use Rattle.sam_sizing.proofs.least.least_capacity.Given as goal

abbrev pub invariant-doubling : goal.invariant-doubling
invariant-doubling g l = record {
  ordered : l.low < l.high;
  most : l.high ≤ l.top;
  stalls : WhateverStored l.g (g.M.Maker.kinds l.maker) (λ net. StallsUpTo net l.low l.below);
}

abbrev pub decreases-doubling : goal.decreases-doubling
decreases-doubling g l = l.top - l.low
