use Rattle.std.proofs.Common.{◌≡◌, take, drop, length}
use Rattle.std.specs.Prelude.{All}
use mathlib.Core.List.{map}
use Rattle.sam_model.specs.Lists.{below}
use Rattle.stepper.specs.Capacity.{IsCapacity}
use Rattle.runs.specs.Capacities.{capacity_at, unknown_channel}
use Rattle.runs.proofs.capacities.channel_capacities.Given as goal

abbrev pub invariant-loop-pair : goal.invariant-loop-pair
invariant-loop-pair l = record {
  number : length l.each.items ≡ l.channels;
  so_far : l.each.items ≡ map (capacity_at l.fn.all (take l.pair-index l.pairs)) (below l.channels);
  left : unknown_channel l.channels (drop l.pair-index l.pairs) ≡ unknown_channel l.channels l.pairs;
  fit : All IsCapacity l.each.items;
}
