use Rattle.std.proofs.Common.{◌≡◌, ◌++◌, drop}
use Rattle.stream_model.specs.Texts.{spaced}
use Rattle.stream_model.proofs.texts.numbers.Given as goal

abbrev pub invariant-loop-n : goal.invariant-loop-n
invariant-loop-n l = l.text ++ spaced (drop l.n-index l.ns) ≡ l.fn.text ++ spaced l.ns
