use Rattle.std.proofs.Common.{◌≡◌, ◌<◌, ◌+◌, length, false, refl, sym, ap, ◌∙◌, arith}
use Rattle.sam_model.specs.Listing.{path_of}
use Rattle.sam_model.specs.Lists.{same_list}
use Rattle.tns_io.proofs.ListingLemmas.{listing-next}
use Rattle.tns_io.proofs.PathLemmas.{values-reached, not-past-next}
use Rattle.tns_io.proofs.closing.found.Found.value_of.Goals as goal

pub reach-requires-clause-there : goal.reach-requires-clause-there
reach-requires-clause-there c =
    let inside : c.args.self.now.next < length c.args.w.now.vals = rw c.len.ensures at c.if-self-len.false in
    values-reached _ c.args.w.now c.args.self.now.next c.requires.in_range inside

pub returns-then-same_path-clause-stands : goal.returns-then-same_path-clause-stands
returns-then-same_path-clause-stands c =
    let next = c.args.self.now.next in
    rw (c.pass.ensures.walk, c.pass.ensures.next)
    (record {
      path = c.reach.ensures.levels ∙ c.requires.stands.path;
      fibers = c.reach.ensures.fibers ∙ c.requires.stands.fibers;
      before = not-past-next _ _ next (next + 1) (omega arith) c.reach.ensures.before;
    })

pub returns-else-same_path-clause-value : goal.returns-else-same_path-clause-value
returns-else-same_path-clause-value c =
    let w = c.args.w.now in
    let next = c.args.self.now.next in
    let inside : next < length w.vals = rw c.len.ensures at c.if-self-len.false in
    let apart : same_list c.args.path.now (path_of w.segs w.crds next) ≡ false =
    ap (same_list c.args.path.now) (sym (c.as_slice.ensures.value ∙ c.reach.ensures.path)) ∙ sym c.same_path.ensures ∙ c.if-same_path.false in
    rw (listing-next w next inside, apart) refl

pub returns-else-same_path-clause-left : goal.returns-else-same_path-clause-left
returns-else-same_path-clause-left c =
    let w = c.args.w.now in
    let next = c.args.self.now.next in
    let inside : next < length w.vals = rw c.len.ensures at c.if-self-len.false in
    let apart : same_list c.args.path.now (path_of w.segs w.crds next) ≡ false =
    ap (same_list c.args.path.now) (sym (c.as_slice.ensures.value ∙ c.reach.ensures.path)) ∙ sym c.same_path.ensures ∙ c.if-same_path.false in
    rw (listing-next w next inside, apart) refl
