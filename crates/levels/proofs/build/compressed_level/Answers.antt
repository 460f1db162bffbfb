-- The pairs ascend, so the segments do.
use Rattle.std.proofs.Common.{◌≡◌, ◌+◌, [], ap, ◌∙◌, ℕ}
use mathlib.Core.List.{map}
use Rattle.sam_model.specs.Lists.{below}
use Rattle.levels.specs.Pairs.{with_pairs, before}
use Rattle.levels.specs.Rows.{row_pairs}
use Rattle.levels.proofs.SegmentLemmas.{parents-below, parents-sorted, segments-rise, segments-within}
use Rattle.levels.proofs.build.compressed_level.Goals as goal

pub segments_of-requires-clause-inside : goal.segments_of-requires-clause-inside
segments_of-requires-clause-inside c =
    parents-below (row_pairs c.args.at.now.ranks.items c.args.place c.args.rows.now) c.in_ok-pairs.pairs.items c.deref-2.result.now c.args.at.now.count c.requires.inside
    (c.in_ok-pairs.ensures.pairs ∙ ap (λ t. with_pairs [] (row_pairs t c.args.place c.args.rows.now)) c.deref.ensures.value) c.deref-2.ensures.value

pub segments_of-requires-clause-sorted : goal.segments_of-requires-clause-sorted
segments_of-requires-clause-sorted c =
    parents-sorted (row_pairs c.args.at.now.ranks.items c.args.place c.args.rows.now) c.in_ok-pairs.pairs.items c.deref-2.result.now c.requires.sorted
    (c.in_ok-pairs.ensures.pairs ∙ ap (λ t. with_pairs [] (row_pairs t c.args.place c.args.rows.now)) c.deref.ensures.value) c.deref-2.ensures.value

pub invariant_of-level : goal.invariant_of-level
invariant_of-level c =
    let segments : c.in_ok-segments_of.field-0.items ≡ map (before c.in_ok-pairs.pairs.items) (below (c.args.at.now.count + 1))
    = c.in_ok-segments_of.ensures ∙ ap (λ t. map (before t) (below (c.args.at.now.count + 1))) c.deref-2.ensures.value in
    let coordinates : c.in_ok-coordinates_of.field-0.items ≡ map (λ (x : ℕ × ℕ). x.1) c.in_ok-pairs.pairs.items
    = c.in_ok-coordinates_of.ensures ∙ ap (map (λ (x : ℕ × ℕ). x.1)) c.deref-3.ensures.value in
    record {
      rising = segments-rise c.in_ok-pairs.pairs.items c.in_ok-segments_of.field-0.items (c.args.at.now.count + 1) segments;
      within = segments-within c.in_ok-pairs.pairs.items c.in_ok-segments_of.field-0.items c.in_ok-coordinates_of.field-0.items (c.args.at.now.count + 1) segments coordinates;
    }
