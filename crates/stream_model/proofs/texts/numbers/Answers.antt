use Rattle.std.proofs.Common.{rules}
use Rattle.stream_model.proofs.Spaced.{spaced-more, spaced-done}
use Rattle.stream_model.proofs.texts.numbers.Goals as goal

pub loop-n-preserved : goal.loop-n-preserved
loop-n-preserved c =
    spaced-more _ _ _ c.args.ns.now c.loop-n.n-index c.from.result c.loop-n.invariant c.loop-n-test.true (search rules) c.in_ok-number.ensures

pub returns : goal.returns
returns c = spaced-done _ _ c.args.ns.now c.loop-n.n-index c.loop-n.invariant c.loop-n-test.false
