use Rattle.std.proofs.Common.{◌≡◌, drop}
use Rattle.words.specs.Asked.{has_repeats}
use Rattle.words.proofs.RepeatLemmas.{repeats_past}
use Rattle.words.proofs.numbers.repeats.Given as goal

abbrev pub invariant-loop-pair : goal.invariant-loop-pair
invariant-loop-pair l = repeats_past l.channels (drop l.pair-index l.pairs) ≡ has_repeats l.pairs
