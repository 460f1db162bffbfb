use Rattle.std.proofs.Common.{◌<◌, ℕ}
use Rattle.graph.specs.Joined.{ChannelFits}
use Rattle.graph.proofs.wiring.stray_channel.Given as goal

abbrev pub invariant-loop-c : goal.invariant-loop-c
invariant-loop-c l = (c : ℕ) → c < l.c → ChannelFits l.g c
