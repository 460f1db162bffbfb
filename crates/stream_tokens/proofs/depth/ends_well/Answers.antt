use Rattle.std.proofs.Common.{arith, ◌≡◌, ◌+◌}
use Rattle.stream_tokens.proofs.Bodies.{leaf-ends, stop-ends}
use Rattle.stream_tokens.proofs.depth.ends_well.Goals as goal

pub returns-then-depth-eq0 : goal.returns-then-depth-eq0
returns-then-depth-eq0 c = leaf-ends _ _ _ _ c.in-Item.is c.if-depth-eq0.true c.is_empty.ensures

pub returns-then-from : goal.returns-then-from
returns-then-from c =
    let next : c.in-Stop.level + 1 ≡ c.args.depth = omega (arith, c.if-from.true, c.from.ensures, c.from-in-Stop.ensures) in
    stop-ends _ c.in-Stop.level _ _ _ c.in-Stop.is next c.is_body.ensures
