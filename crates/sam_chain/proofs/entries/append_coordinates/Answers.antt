use Rattle.std.proofs.Common.{◌∙◌}
use Rattle.sam_model.specs.Lists.{coordinate}
use Rattle.sam_chain.proofs.EntryLemmas.{mode-on}
use Rattle.sam_chain.proofs.entries.append_coordinates.Goals as goal

pub loop-mode-preserved : goal.loop-mode-preserved
loop-mode-preserved c =
    rw (c.in_ok-push.ensures.ok, c.coordinate_of.ensures)
    (mode-on (coordinate c.args.order.now c.args.path.now) c.loop-mode.coords c.loop-mode.mode _ c.loop-mode-test.true ∙ c.loop-mode.invariant)
