use Rattle.std.proofs.Common.{◌≡◌, take, map, Some}
use Rattle.std.specs.Prelude.{All}
use Rattle.words.specs.Asked.{all_read, pair_of, IsCapacityGiven}
use Rattle.words.proofs.numbers.each_pair.Given as goal

abbrev pub invariant-loop-part : goal.invariant-loop-part
invariant-loop-part l = record {
  read : all_read (map (λ part. pair_of part.now) (take l.part-index l.parts)) ≡ Some l.pairs.items;
  bounded : All (λ pair. IsCapacityGiven pair.1) l.pairs.items;
}
