use Rattle.std.proofs.Common.{◌∙◌}
use Rattle.tns_io.proofs.LineLemmas.{line-on}
use Rattle.tns_io.proofs.results.append_line.Goals as goal

pub loop-mode-preserved : goal.loop-mode-preserved
loop-mode-preserved c =
    rw (c.in_ok-push.ensures.ok, c.in_ok-append_number.ensures, c.coordinate_of.ensures)
    (line-on c.args.order.now c.args.path.now c.loop-mode.text c.loop-mode.mode c.args.value c.loop-mode-test.true ∙ c.loop-mode.invariant)
