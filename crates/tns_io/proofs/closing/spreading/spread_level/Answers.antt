use Rattle.std.proofs.Common.{◌∙◌}
use Rattle.tns_io.proofs.SpreadLemmas.{path-spread}
use Rattle.tns_io.proofs.closing.spreading.spread_level.Goals as goal

pub loop-path-preserved : goal.loop-path-preserved
loop-path-preserved c =
    let paths = c.args.paths.now in
    path-spread c.args.long paths.count c.args.size paths.numbers.items c.loop-path.path c.loop-path.numbers.items c.append_below.new.numbers.items c.path.result.now
    c.loop-path-test.true c.path.ensures.path c.in_ok-append_below.ensures
    ∙ c.loop-path.invariant
