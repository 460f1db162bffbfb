use Rattle.std.proofs.Common.{◌≡◌, ◌++◌, take}
use Rattle.stream_tokens.proofs.Joined.{spaced}
use Rattle.stream_tokens.proofs.text.stream_text.Given as goal

abbrev pub invariant-loop-t : goal.invariant-loop-t
invariant-loop-t l = l.text ≡ l.initial.text ++ spaced (take l.t-index l.others)
