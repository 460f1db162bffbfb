use Rattle.std.proofs.Common.{◌≡◌, suc, ap, ◌∙◌, arith}
use Rattle.sam_model.specs.Lists.{below}
use Rattle.tns_io.proofs.CoordinateLemmas.{below-on}
use Rattle.tns_io.proofs.closing.coordinates.single_ends.Goals as goal

pub loop-end-preserved : goal.loop-end-preserved
loop-end-preserved c = below-on c.loop-end.end c.loop-end.ends c.push.new.self c.loop-end.invariant c.in_ok-push.ensures.ok

pub returns : goal.returns
returns c =
    let all : c.loop-end.end ≡ suc c.args.count = omega arith in
    c.loop-end.invariant ∙ ap below all
