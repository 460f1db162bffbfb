use Rattle.std.proofs.Common.{◌≡◌, [], ◌∷◌, ◌+◌, ◌*◌, ◌<◌, ◌≤◌, length, drop, ap, sym, ◌∙◌, arith}
use Rattle.std.specs.Prelude.{slice_index}
use Rattle.std.proofs.Math.Seq.{drop-length}
use Rattle.std.proofs.lemmas.List.{length-map}
use Rattle.sam_model.specs.Lists.{items_at}
use Rattle.tns_io.specs.Closing.{spread, multiplied}
use Rattle.tns_io.specs.Rows.{joined, rows_of}
use Rattle.tns_io.proofs.RowLemmas.{joined-rows}
use Rattle.tns_io.proofs.SpreadLemmas.{level-rows, level-whole, next-size, spread-least}
use Rattle.tns_io.proofs.closing.spreading.spread_paths.Goals as goal

pub overflow_mul-paths : goal.overflow_mul-paths
overflow_mul-paths c =
    let t = c.args.declared.now in
    let sizes = items_at t.dims t.order in
    let level = c.loop-level.level in
    let inside : level < length sizes = rw (length-map t.order (slice_index t.dims), ← c.len-level-end.ensures) c.loop-level-test.true in
    let next : multiplied c.loop-level.paths.count (drop level sizes) ≡ multiplied (c.loop-level.paths.count * slice_index sizes level) (drop (level + 1) sizes) =
    ap (multiplied c.loop-level.paths.count) (next-size sizes level inside) in
    let least = spread-least t (level + 1) (c.loop-level.paths.count * slice_index sizes level) c.requires.formed in
    let same = c.loop-level.invariant.count in
    let few = c.requires.few in
    rw c.size_of_level-size.ensures.size (omega (arith, next, least, same, few))

pub loop-level-preserved : goal.loop-level-preserved
loop-level-preserved c =
    let t = c.args.declared.now in
    let sizes = items_at t.dims t.order in
    let level = c.loop-level.level in
    let count = c.loop-level.paths.count in
    let before = c.loop-level.paths.numbers.items in
    let after = c.in_ok-spread_level.field-0.items in
    let size = c.size_of_level-size.result in
    let inside : level < length sizes = rw (length-map t.order (slice_index t.dims), ← c.len-level-end.ensures) c.loop-level-test.true in
    let next : drop level sizes ≡ size ∷ drop (level + 1) sizes = rw c.size_of_level-size.ensures.size (next-size sizes level inside) in
    record {
      whole = level-whole level count size before after c.loop-level.invariant.whole c.in_ok-spread_level.ensures;
      rows =
          ap (λ rows. spread rows (drop (level + 1) sizes)) (level-rows level count size before after c.loop-level.invariant.whole c.in_ok-spread_level.ensures)
          ∙ sym (ap (spread (rows_of level count before)) next)
          ∙ c.loop-level.invariant.rows;
      count = sym (ap (multiplied count) next) ∙ c.loop-level.invariant.count;
    }

pub returns-clause-paths : goal.returns-clause-paths
returns-clause-paths c =
    let t = c.args.declared.now in
    let sizes = items_at t.dims t.order in
    let level = c.loop-level.level in
    let rows = rows_of level c.loop-level.paths.count c.loop-level.paths.numbers.items in
    let end = c.len-level-end.ensures in
    let least : c.args.from ≤ c.len-level-end.result = rw end c.requires.there in
    let most = c.loop-level.auto.level-end least in
    let last : level ≡ length sizes = rw (length-map t.order (slice_index t.dims)) (omega (arith, end, most, c.loop-level-test.false)) in
    let none : drop level sizes ≡ [] = ap (λ n. drop n sizes) last ∙ drop-length sizes in
    sym (joined-rows level c.loop-level.paths.count c.loop-level.paths.numbers.items c.loop-level.invariant.whole)
    ∙ ap joined (sym (ap (spread rows) none) ∙ c.loop-level.invariant.rows)
