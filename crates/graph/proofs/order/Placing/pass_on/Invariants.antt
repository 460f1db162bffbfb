use Rattle.std.proofs.Common.{◌≡◌, ◌<◌, ◌≤◌, ℕ, length}
use Rattle.graph.specs.declared.order.Progress.TheVariants.{WaitsAt}
use Rattle.graph.specs.Wiring.{channel, into}
use Rattle.graph.specs.Placing.{sender, reached, IsPlacing, Later}
use Rattle.graph.proofs.order.Placing.pass_on.Given as goal

abbrev pub invariant-loop-channel : goal.invariant-loop-channel
invariant-loop-channel l = record {
  kept : IsPlacing l.g l.self.order.items l.self.progress.items;
  later : Later l.g l.fn.self.order.items l.fn.self.progress.items l.self.order.items l.self.progress.items;
  past : (r q : ℕ) → r < length l.g.blocks → reached l.self.progress.items r ≡ WaitsAt q → sender l.g r q ≡ l.b
      → l.channel-index ≤ (channel l.g (into l.g r q)).from_port;
}
