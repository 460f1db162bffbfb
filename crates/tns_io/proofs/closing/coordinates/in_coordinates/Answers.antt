use Rattle.std.proofs.Common.{◌≡◌, length, arith}
use Rattle.tns_io.specs.Coordinates.{column, level_ends}
use Rattle.tns_io.proofs.CoordinateLemmas.{levels-on, written-in-range, written-lists-rows}
use Rattle.tns_io.proofs.closing.coordinates.in_coordinates.Goals as goal

pub loop-level-preserved : goal.loop-level-preserved
loop-level-preserved c =
    let ends = rw c.len-count.ensures at c.in_ok-ends_at.ensures in
    let coordinates = rw c.len-count.ensures at c.in_ok-column.ensures in
    record {
      segs = levels-on (λ level. level_ends level (length c.args.vals)) c.loop-level.level _ _ _ c.loop-level.invariant.segs ends c.in_ok-push.ensures.ok;
      crds = levels-on (column c.args.levels c.args.rows.now (length c.args.vals)) c.loop-level.level _ _ _ c.loop-level.invariant.crds coordinates c.in_ok-push-2.ensures.ok;
    }

pub returns-clause-in_range : goal.returns-clause-in_range
returns-clause-in_range c =
    let all : c.loop-level.level ≡ c.args.levels = omega arith in
    written-in-range c.args.levels c.args.rows.now c.args.vals c.loop-level.segs c.loop-level.crds (rw all at c.loop-level.invariant.segs) (rw all at c.loop-level.invariant.crds) c.requires.some

pub returns-clause-listed : goal.returns-clause-listed
returns-clause-listed c =
    let all : c.loop-level.level ≡ c.args.levels = omega arith in
    written-lists-rows c.args.levels c.args.rows.now c.args.vals c.loop-level.segs c.loop-level.crds (rw all at c.loop-level.invariant.segs) (rw all at c.loop-level.invariant.crds) c.requires.rows
