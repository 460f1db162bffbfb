use Rattle.std.proofs.Common.{◌≡◌, ℕ, ◌-◌, ◌<◌, List, length, get_or, ap, ◌∙◌, arith}
use Rattle.std.proofs.lemmas.List.{length-set, get_or_default}
use Rattle.sam_model.specs.Listing.{place_above}
use Rattle.tns_io.proofs.WalkLemmas.{level-at, level-in, level-there, level-behind, level-done}
use Rattle.tns_io.proofs.paths.Walk.reach.Goals as goal

pub get-requires-in-loop-level : goal.get-requires-in-loop-level
get-requires-in-loop-level c =
    let level = c.loop-level.level in
    let segs = c.args.w.now.segs in
    let crds = c.args.w.now.crds in
    let ends = level-in segs level c.loop-level-test.true (omega (arith, c.requires.segs, c.loop-level.invariant.bound, c.loop-level.invariant.count)) in
    let cs = level-at crds level c.get.result.now c.loop-level-test.true c.get.ensures in
    (level-there segs crds _ _ level c.loop-level.place c.args.number ends cs c.loop-level.invariant.place
    (c.requires.there (level - 1) (omega (arith, c.requires.segs, c.loop-level.invariant.bound, c.loop-level.invariant.count)))).0

pub fiber_of-place-requires-clause-from : goal.fiber_of-place-requires-clause-from
fiber_of-place-requires-clause-from c =
    let level = c.loop-level.level in
    let segs = c.args.w.now.segs in
    let ends = level-at segs level c.get-in-loop-level-2.result.now c.loop-level-test.true c.get-in-loop-level-2.ensures in
    let behind = level-behind segs _ c.loop-level.self.fibers.items level c.loop-level.place c.args.number c.loop-level-test.true
    (omega (arith, c.requires.segs, c.loop-level.invariant.bound, c.loop-level.invariant.count)) ends c.loop-level.invariant.place c.loop-level.invariant.before in
    let less : level - 1 < length c.loop-level.self.fibers.items = omega (arith, c.loop-level.invariant.bound, c.loop-level.invariant.fibers) in
    let same : c.index.result.now ≡ get_or c.loop-level.self.fibers.items (level - 1) 0 =
    c.index.ensures ∙ get_or_default c.loop-level.self.fibers.items (level - 1) c.index.result.now 0 less in
    rw (same, c.as_slice.ensures) behind

pub fiber_of-place-requires-clause-there : goal.fiber_of-place-requires-clause-there
fiber_of-place-requires-clause-there c =
    let level = c.loop-level.level in
    let segs = c.args.w.now.segs in
    let crds = c.args.w.now.crds in
    let ends = level-at segs level c.get-in-loop-level-2.result.now c.loop-level-test.true c.get-in-loop-level-2.ensures in
    let cs = level-at crds level c.get.result.now c.loop-level-test.true c.get.ensures in
    rw c.as_slice.ensures
    (level-there segs crds _ _ level c.loop-level.place c.args.number ends cs c.loop-level.invariant.place
    (c.requires.there (level - 1) (omega (arith, c.requires.segs, c.loop-level.invariant.bound, c.loop-level.invariant.count)))).1

pub loop-level-preserved : goal.loop-level-preserved
loop-level-preserved c =
    let level = c.loop-level.level in
    let segs = c.args.w.now.segs in
    let crds = c.args.w.now.crds in
    let ends = level-at segs level c.get-in-loop-level-2.result.now c.loop-level-test.true c.get-in-loop-level-2.ensures in
    let cs = level-at crds level c.get.result.now c.loop-level-test.true c.get.ensures in
    let fiber : c.fiber_of-place.result ≡ place_above c.get-in-loop-level-2.result.now c.loop-level.place =
    c.fiber_of-place.ensures ∙ ap (λ (xs : List ℕ). place_above xs c.loop-level.place) c.as_slice.ensures in
    let done = level-done segs crds _ _ c.loop-level.self.path.items c.loop-level.self.fibers.items level c.loop-level.place c.args.number c.get-in-loop-level.result c.fiber_of-place.result
    c.loop-level-test.true c.loop-level.invariant.bound ends cs c.loop-level.invariant.place c.loop-level.invariant.path c.loop-level.invariant.before c.get-in-loop-level.ensures fiber in
    record {
      bound = simp length-set (omega (arith, c.loop-level.invariant.bound));
      count = simp length-set c.loop-level.invariant.count;
      fibers = simp length-set c.loop-level.invariant.fibers;
      place = done.place;
      path = done.written;
      before = done.before;
    }
