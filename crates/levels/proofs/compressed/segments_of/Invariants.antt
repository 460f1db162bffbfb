use Rattle.std.proofs.Common.{◌≡◌, ◌+◌, ◌<◌, ◌≤◌, length, take, drop}
use mathlib.Core.List.{map}
use Rattle.sam_model.specs.Lists.{below}
use Rattle.sam_base.specs.Each.{Each}
use Rattle.levels.specs.Pairs.{before}
use Rattle.levels.proofs.compressed.segments_of.Given as goal

abbrev pub invariant-loop-place : goal.invariant-loop-place
invariant-loop-place l = record {
  made : l.segments.items ≡ map (before l.pairs) (below (length l.segments.items));
  front : Each (λ x. x.0 < length l.segments.items) (take l.place l.pairs);
  rest : Each (λ x. length l.segments.items ≤ x.0 + 1) (drop l.place l.pairs);
  small : length l.segments.items ≤ l.parents;
}
