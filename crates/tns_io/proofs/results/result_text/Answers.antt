use Rattle.std.proofs.Common.{◌≡◌, ◌<◌, ◌+◌, length, ◌∙◌, arith}
use Rattle.sam_model.specs.Listing.{path_of}
use Rattle.tns_io.proofs.LineLemmas.{coordinate-most}
use Rattle.tns_io.proofs.ListingLemmas.{listing-on, listing-passes}
use Rattle.tns_io.proofs.PathLemmas.{values-reached, not-past-next}
use Rattle.tns_io.proofs.results.result_text.Goals as goal

pub reach-requires-clause-there : goal.reach-requires-clause-there
reach-requires-clause-there c =
    let items : c.as_slice-value-items.result.now ≡ c.args.w.now.vals = c.as_slice-value-items.ensures in
    values-reached _ c.args.w.now c.loop-number.number c.requires.in_range (rw items at c.loop-number-test.true)

pub append_line-requires-clause-room : goal.append_line-requires-clause-room
append_line-requires-clause-room c =
    λ mode.
    let items : c.as_slice-value-items.result.now ≡ c.args.w.now.vals = c.as_slice-value-items.ensures in
    let order = c.args.declared.now.order in
    let passes = listing-passes _ c.args.w.now c.loop-number.number (rw items at c.loop-number-test.true) c.loop-number.invariant.below in
    let most = coordinate-most c.args.declared.now.dims order order (path_of c.args.w.now.segs c.args.w.now.crds c.loop-number.number) mode c.requires.dims passes.next in
    rw (c.as_slice.ensures, c.as_slice-in-loop-number.ensures.value, c.reach.ensures.path) (omega (arith, most))

pub loop-number-preserved : goal.loop-number-preserved
loop-number-preserved c =
    let items : c.as_slice-value-items.result.now ≡ c.args.w.now.vals = c.as_slice-value-items.ensures in
    let less : c.loop-number.number < length c.args.w.now.vals = rw items at c.loop-number-test.true in
    let passes = listing-passes _ c.args.w.now c.loop-number.number less c.loop-number.invariant.below in
    let line = rw (c.as_slice.ensures, c.as_slice-in-loop-number.ensures.value) at c.in_ok-append_line.ensures in
    record {
      stands = record {
        path = c.reach.ensures.levels ∙ c.loop-number.invariant.stands.path;
        fibers = c.reach.ensures.fibers ∙ c.loop-number.invariant.stands.fibers;
        before = not-past-next _ _ c.loop-number.number (c.loop-number.number + 1) (omega arith) c.reach.ensures.before;
      };
      below = passes.others;
      same = listing-on c.args.declared.now.order c.args.w.now c.loop-number.number _ _ _ _ less c.reach.ensures.path items line ∙ c.loop-number.invariant.same;
    }
