use Rattle.std.proofs.Common.{◌<◌, ◌≤◌, ◌-◌}
use Rattle.sam_sizing.specs.Makers.{WhateverStored}
use Rattle.sam_sizing.specs.Trials.{LiesWithin}
use Rattle.sam_sizing.proofs.least.narrowed.Given as goal

abbrev pub invariant-halving : goal.invariant-halving
invariant-halving g l = record {
  ordered : l.bounds.low < l.bounds.high;
  most : l.bounds.high ≤ l.fn.bounds.high;
  within : WhateverStored l.g (g.M.Maker.kinds l.maker) (λ net. LiesWithin net l.fn.bounds → LiesWithin net l.bounds);
}

abbrev pub decreases-halving : goal.decreases-halving
decreases-halving g l = l.bounds.high - l.bounds.low
