-- The next level and the next ranks, by the format of the level.
use Rattle.std.proofs.Common.{◌≡◌, ◌+◌, ◌*◌, ◌<◌, [], suc, length, arith, ◌∙◌}
use Rattle.std.specs.Prelude.{slice_index_or}
use mathlib.Core.List.{map}
use Rattle.sam_model.specs.Tensors.{stored_prefixes}
use Rattle.sam_model.specs.Children.{children_of}
use Rattle.levels.specs.declared.level.Level.{Level}
use Rattle.levels.specs.declared.positions.Positions.{Positions}
use Rattle.levels.specs.Arrays.{dense_children}
use Rattle.sam_base.specs.Each.{Each}
use Rattle.levels.specs.Pairs.{with_pairs}
use Rattle.levels.specs.Placed.{Placed}
use Rattle.levels.specs.Rows.{of_rows, row_pairs}
use Rattle.levels.specs.Shown.{level_count, level_children, pair_children}
use Rattle.levels.proofs.NextLemmas.{ok-from, ok-from-two, ok-from-three, row-pairs-inside, row-parents-inside, row-pairs-sorted, dense-next-children, dense-next-count, dense-next-placed, compressed-next-children, compressed-next-count, compressed-next-placed}
use Rattle.levels.proofs.build.next_level.Goals as goal

pub dense_level-requires-clause-inside : goal.dense_level-requires-clause-inside
dense_level-requires-clause-inside c = row-pairs-inside c.args.t.now c.args.rows.now c.args.place c.args.at.now.count c.args.at.now.ranks.items c.requires.storable c.requires.inside c.requires.order c.requires.placed c.get-size.result c.get-in-Dense.result c.get-in-Dense.ensures c.get-size.ensures

pub compressed_level-requires-clause-inside : goal.compressed_level-requires-clause-inside
compressed_level-requires-clause-inside c = row-parents-inside c.args.t.now c.args.rows.now c.args.place c.args.at.now.count c.args.at.now.ranks.items c.requires.storable c.requires.inside c.requires.order c.requires.placed

pub compressed_level-requires-clause-sorted : goal.compressed_level-requires-clause-sorted
compressed_level-requires-clause-sorted c = row-pairs-sorted c.args.t.now c.args.rows.now c.args.place c.args.at.now.count c.args.at.now.ranks.items c.requires.storable c.requires.inside c.requires.order c.requires.placed

pub returns-in-Dense-clause-children : goal.returns-in-Dense-clause-children
returns-in-Dense-clause-children c =
    ok-from (λ (made : Level × Positions). level_children made.0 ≡ dense_children c.get-size.result c.args.at.now.count)
    (λ (made : Level × Positions). level_children made.0 ≡ children_of (of_rows c.args.t.now c.args.rows.now) (suc c.args.place)) c.dense_level.result
    (λ made h. h ∙ dense-next-children c.args.t.now c.args.rows.now c.args.place c.args.at.now.count c.args.at.now.ranks.items c.requires.storable c.requires.inside c.requires.order c.requires.placed c.get-size.result c.get-in-Dense.result c.get-in-Dense.ensures c.get-size.ensures c.get.result.now c.get.ensures c.in-Dense.is) c.dense_level.ensures.children

pub returns-in-Dense-clause-counted : goal.returns-in-Dense-clause-counted
returns-in-Dense-clause-counted c =
    ok-from (λ (made : Level × Positions). level_count made.0 ≡ c.args.at.now.count * c.get-size.result)
    (λ (made : Level × Positions). level_count made.0 ≡ length (stored_prefixes (of_rows c.args.t.now c.args.rows.now) (suc c.args.place))) c.dense_level.result
    (λ made h. h ∙ dense-next-count c.args.t.now c.args.rows.now c.args.place c.args.at.now.count c.args.at.now.ranks.items c.requires.storable c.requires.inside c.requires.order c.requires.placed c.get-size.result c.get-in-Dense.result c.get-in-Dense.ensures c.get-size.ensures c.get.result.now c.get.ensures c.in-Dense.is) c.dense_level.ensures.counted

pub returns-in-Dense-clause-placed : goal.returns-in-Dense-clause-placed
returns-in-Dense-clause-placed c =
    ok-from-two (λ (made : Level × Positions). made.1.count ≡ c.args.at.now.count * c.get-size.result)
    (λ (made : Level × Positions). made.1.ranks.items ≡ map (λ x. x.0 * c.get-size.result + x.1) (row_pairs c.args.at.now.ranks.items c.args.place c.args.rows.now))
    (λ (made : Level × Positions). Placed (of_rows c.args.t.now c.args.rows.now) (suc c.args.place) made.1.count made.1.ranks.items) c.dense_level.result
    (λ made h k. dense-next-placed c.args.t.now c.args.rows.now c.args.place c.args.at.now.count c.args.at.now.ranks.items c.requires.storable c.requires.inside c.requires.order c.requires.placed c.get-size.result c.get-in-Dense.result c.get-in-Dense.ensures c.get-size.ensures c.get.result.now c.get.ensures c.in-Dense.is made.1.count made.1.ranks.items h k) c.dense_level.ensures.count c.dense_level.ensures.ranks

pub returns-in-Dense-clause-many : goal.returns-in-Dense-clause-many
returns-in-Dense-clause-many c =
    λ e. let many = c.dense_level.ensures.many e in
    let same = dense-next-count c.args.t.now c.args.rows.now c.args.place c.args.at.now.count c.args.at.now.ranks.items c.requires.storable c.requires.inside c.requires.order c.requires.placed c.get-size.result c.get-in-Dense.result c.get-in-Dense.ensures c.get-size.ensures c.get.result.now c.get.ensures c.in-Dense.is in
    omega arith

pub returns-in-Compressed-clause-children : goal.returns-in-Compressed-clause-children
returns-in-Compressed-clause-children c =
    ok-from (λ (made : Level × Positions). level_children made.0 ≡ pair_children (with_pairs [] (row_pairs c.args.at.now.ranks.items c.args.place c.args.rows.now)) c.args.at.now.count)
    (λ (made : Level × Positions). level_children made.0 ≡ children_of (of_rows c.args.t.now c.args.rows.now) (suc c.args.place)) c.compressed_level.result
    (λ made h. h ∙ compressed-next-children c.args.t.now c.args.rows.now c.args.place c.args.at.now.count c.args.at.now.ranks.items c.requires.storable c.requires.inside c.requires.order c.requires.placed c.get.result.now c.get.ensures c.in-Compressed.is) c.compressed_level.ensures.children

pub returns-in-Compressed-clause-counted : goal.returns-in-Compressed-clause-counted
returns-in-Compressed-clause-counted c =
    ok-from (λ (made : Level × Positions). level_count made.0 ≡ length (with_pairs [] (row_pairs c.args.at.now.ranks.items c.args.place c.args.rows.now)))
    (λ (made : Level × Positions). level_count made.0 ≡ length (stored_prefixes (of_rows c.args.t.now c.args.rows.now) (suc c.args.place))) c.compressed_level.result
    (λ made h. h ∙ compressed-next-count c.args.t.now c.args.rows.now c.args.place c.args.at.now.count c.args.at.now.ranks.items c.requires.storable c.requires.inside c.requires.order c.requires.placed c.get.result.now c.get.ensures c.in-Compressed.is) c.compressed_level.ensures.counted

pub returns-in-Compressed-clause-placed : goal.returns-in-Compressed-clause-placed
returns-in-Compressed-clause-placed c =
    ok-from-three (λ (made : Level × Positions). made.1.count ≡ length (with_pairs [] (row_pairs c.args.at.now.ranks.items c.args.place c.args.rows.now)))
    (λ (made : Level × Positions). Each (λ r. r < length (with_pairs [] (row_pairs c.args.at.now.ranks.items c.args.place c.args.rows.now))) made.1.ranks.items)
    (λ (made : Level × Positions). map (λ r. slice_index_or (with_pairs [] (row_pairs c.args.at.now.ranks.items c.args.place c.args.rows.now)) r (0, 0)) made.1.ranks.items ≡ (row_pairs c.args.at.now.ranks.items c.args.place c.args.rows.now))
    (λ (made : Level × Positions). Placed (of_rows c.args.t.now c.args.rows.now) (suc c.args.place) made.1.count made.1.ranks.items) c.compressed_level.result
    (λ made h k l. compressed-next-placed c.args.t.now c.args.rows.now c.args.place c.args.at.now.count c.args.at.now.ranks.items c.requires.storable c.requires.inside c.requires.order c.requires.placed c.get.result.now c.get.ensures c.in-Compressed.is made.1.count made.1.ranks.items h k l)
    c.compressed_level.ensures.count c.compressed_level.ensures.ranks c.compressed_level.ensures.placed

pub returns-in-Compressed-clause-many : goal.returns-in-Compressed-clause-many
returns-in-Compressed-clause-many c =
    λ e. let many = c.compressed_level.ensures.many e in
    let same = compressed-next-count c.args.t.now c.args.rows.now c.args.place c.args.at.now.count c.args.at.now.ranks.items c.requires.storable c.requires.inside c.requires.order c.requires.placed c.get.result.now c.get.ensures c.in-Compressed.is in
    omega arith
