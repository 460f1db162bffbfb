-- The coordinates of an entry stand together, and each is below its dimension.
use Rattle.std.proofs.Common.{◌≡◌, ◌+◌, ◌*◌, ◌^◌, ◌<◌, ◌≢◌, length, get_or, arith, ◌∙◌, ap, below_more, length-set, get_or-set_other, get_or-set_same}
use Rattle.levels.proofs.EntryLemmas.{row-start, row-is}
use Rattle.levels.proofs.rows.row_at.Goals as goal

pub overflow_mul-from : goal.overflow_mul-from
overflow_mul-from c =
    let long : length c.as_slice-coords.result.now < 2 ^ 64 = omega arith in
    let same : length c.as_slice-coords.result.now ≡ length c.args.entries.now.values * c.args.entries.now.arity = ap length c.as_slice-coords.ensures ∙ c.requires.matches.coordinates in
    let small = row-start c.args.n c.args.entries.now.arity (length c.args.entries.now.values) (2 ^ 64) c.requires.there (omega arith) in
    omega arith

pub loop-level-preserved : goal.loop-level-preserved
loop-level-preserved c =
    let set_long = length-set c.loop-level.coordinates c.loop-level.level (get_or c.as_slice-coords.result.now (c.args.n * c.args.entries.now.arity + get_or c.as_slice-mode-items.result.now c.loop-level.level 0) 0) in
    record {
      long = set_long ∙ c.loop-level.invariant.long;
      same = below_more _ _
          (λ j h. let ne : j ≢ c.loop-level.level = omega arith in rw get_or-set_other (c.loop-level.invariant.same j h))
          (get_or-set_same c.loop-level.coordinates c.loop-level.level (get_or c.as_slice-coords.result.now (c.args.n * c.args.entries.now.arity + get_or c.as_slice-mode-items.result.now c.loop-level.level 0) 0) 0 (let order : length c.as_slice-mode-items.result.now ≡ length c.args.t.now.order = ap length c.as_slice-mode-items.ensures in let a = c.requires.storable.few in let b = c.requires.storable.levels in let n = c.loop-level.invariant.long in omega arith)
          ∙ ap (λ t. get_or c.as_slice-coords.result.now (c.args.n * c.args.entries.now.arity + get_or t c.loop-level.level 0) 0) c.as_slice-mode-items.ensures);
    }

pub returns : goal.returns
returns c =
    row-is c.args.t.now c.args.entries.now c.args.n c.loop-level.coordinates c.get.result c.requires.storable c.requires.matches c.requires.there c.loop-level.invariant.long
    (λ j h.
    let order : length c.as_slice-mode-items.result.now ≡ length c.args.t.now.order = ap length c.as_slice-mode-items.ensures in
    c.loop-level.invariant.same j (omega arith)
    ∙ ap (λ t. get_or t (c.args.n * c.args.entries.now.arity + get_or c.args.t.now.order j 0) 0) c.as_slice-coords.ensures)
    c.get.ensures
