use Rattle.std.proofs.Common.{◌≡◌, ◌++◌, [], get_or}
use Rattle.traces.specs.Traces.{lines_of}
use Rattle.traces.proofs.LineLemmas.{lines_from}
use Rattle.traces.proofs.lines.channel_lines.Given as goal

abbrev pub invariant-loop-channel : goal.invariant-loop-channel
invariant-loop-channel l = l.text ++ lines_from l.channel l.channels (λ c. get_or l.kept c []) ≡ lines_of l.channels (λ c. get_or l.kept c [])
