use Rattle.std.proofs.Common.{◌∙◌}
use Rattle.tns_io.proofs.LineLemmas.{coordinate-on}
use Rattle.tns_io.proofs.results.coordinate_of.Goals as goal

pub loop-level-preserved : goal.loop-level-preserved
loop-level-preserved c =
    coordinate-on c.args.order.now c.args.path.now c.loop-level.level c.args.mode c.loop-level-test.true c.requires c.if-mode-stored.false ∙ c.loop-level.invariant
