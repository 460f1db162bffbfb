use Rattle.std.proofs.Common.{[], get_or, sym, ap, ◌∙◌}
use Rattle.block_core.specs.Ports.{Streams}
use Rattle.block_core.proofs.All.{all-pass}
use Rattle.block_tests.proofs.bench.outputs_of.Goals as goal

pub burst-requires : goal.burst-requires
burst-requires g c =
    let fit = g.met.B.BlockStep.stands_fits _ _ 0 c.requires in
    ∣ (_, 0, c.requires, λ p. (all-pass _ _ fit).through.taken p ∙ ap (λ (ss : Streams). get_or ss p []) (sym c.in_ok-bench.ensures)) ∣₁
