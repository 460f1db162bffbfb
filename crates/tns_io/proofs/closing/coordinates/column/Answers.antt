use Rattle.tns_io.proofs.CoordinateLemmas.{column-on}
use Rattle.tns_io.proofs.closing.coordinates.column.Goals as goal

pub loop-row-preserved : goal.loop-row-preserved
loop-row-preserved c = column-on c.args.levels c.args.rows.now c.args.level c.loop-row.row c.loop-row.coordinates c.push.new.self c.loop-row.invariant c.in_ok-push.ensures.ok
