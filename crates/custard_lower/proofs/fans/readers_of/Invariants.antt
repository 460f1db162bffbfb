use Rattle.std.proofs.Common.{◌≡◌, ◌<◌, ℕ, [], length, get_or, take, eqb}
use Rattle.std.specs.List.{filter}
use Rattle.custard_lower.specs.declared.fans.Read.{Read}
use Rattle.custard_lower.proofs.fans.readers_of.Given as goal

abbrev pub invariant-loop-read : goal.invariant-loop-read
invariant-loop-read l = record {
  number : length l.readers.items ≡ l.outputs;
  each : (w : ℕ) → w < l.outputs → get_or l.readers.items w [] ≡ filter (λ (r : Read). eqb r.output w) (take l.read-index l.reads);
}
