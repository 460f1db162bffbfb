use Rattle.tns_io.proofs.SpreadLemmas.{below-next}
use Rattle.tns_io.proofs.closing.spreading.append_below.Goals as goal

pub loop-coordinate-preserved : goal.loop-coordinate-preserved
loop-coordinate-preserved c =
    below-next c.args.path.now c.loop-coordinate.coordinate c.loop-coordinate.numbers.items _ c.push.new.self.items c.args.numbers.now.items
    c.loop-coordinate.invariant c.in_ok-extend_from_slice.ensures.items c.in_ok-push.ensures.items
