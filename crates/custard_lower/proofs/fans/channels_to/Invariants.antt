use Rattle.std.proofs.Common.{◌≡◌, ◌<◌, ℕ, length, get_or, take, eqb, map}
use Rattle.std.specs.List.{filter, range_with_len}
use Rattle.custard_lower.specs.declared.fans.Read.{Read}
use Rattle.custard_lower.specs.DraftFans.{read_channel}
use Rattle.custard_lower.proofs.fans.channels_to.Given as goal

abbrev pub invariant-loop-read : goal.invariant-loop-read
invariant-loop-read l = record {
  channels : l.channels.items ≡ map (read_channel l.fans l.reads) (range_with_len 0 l.read-index);
  number : length l.places.items ≡ length l.fans;
  each : (w : ℕ) → w < length l.fans
      → get_or l.places.items w 0 ≡ length (filter (λ (r : Read). eqb r.output w) (take l.read-index l.reads));
}
