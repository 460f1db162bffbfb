use Rattle.std.proofs.Common.{◌≡◌, ◌++◌, ◌∷◌, [], take, length}
use Rattle.stepper.proofs.routes.Ports.push.Given as goal

abbrev pub invariant-loop-channel : goal.invariant-loop-channel
invariant-loop-channel l =
    (l.self.first.items ≡ l.fn.self.first.items ++ length l.fn.self.channels.items ∷ [])
    × (l.self.channels.items ≡ l.fn.self.channels.items ++ take l.channel-index l.channel-items)
