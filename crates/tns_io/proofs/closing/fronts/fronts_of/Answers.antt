use Rattle.std.proofs.Common.{◌≡◌, ℕ, List, ◌≤◌, ◌<◌, ◌+◌, ◌++◌, length, take, get_or, sym, ap, ◌∙◌, arith, append_assoc}
use Rattle.std.proofs.lemmas.List.{length-take-le}
use Rattle.sam_model.specs.Listing.{path_of}
use Rattle.tns_io.specs.Rows.{joined, ends_in}
use Rattle.tns_io.specs.Walks.{StandsAt, listing_from}
use Rattle.tns_io.proofs.FrontLemmas.{fronts_left, front-stays, front-comes}
use Rattle.tns_io.proofs.ListingLemmas.{listing-next}
use Rattle.tns_io.proofs.PathLemmas.{values-reached, not-past-next}
use Rattle.tns_io.proofs.closing.fronts.fronts_of.Goals as goal
use Rattle.tns_io.proofs.closing.fronts.fronts_of.Goals.{then-not-ends_with+in_ok-extend_from_slice, else-not-ends_with}

pub reach-requires-clause-there : goal.reach-requires-clause-there
reach-requires-clause-there c =
    let inside : c.loop-number.number < length c.args.w.now.vals = rw c.len-number-end.ensures at c.loop-number-test.true in
    values-reached _ c.args.w.now c.loop-number.number c.requires.in_range inside

pub loop-number-preserved : goal.loop-number-preserved
loop-number-preserved c =
    let w = c.args.w.now in
    let number = c.loop-number.number in
    let inside : number < length w.vals = rw c.len-number-end.ensures at c.loop-number-test.true in
    let next = listing-next w number inside in
    let rest = listing_from w (number + 1) in
    let front = take c.args.long c.deref.result.now in
    let stands : StandsAt (length w.segs) w c.reach.new.self (number + 1) = record {
      path = c.reach.ensures.levels ∙ c.loop-number.invariant.stands.path;
      fibers = c.reach.ensures.fibers ∙ c.loop-number.invariant.stands.fibers;
      before = not-past-next _ _ number (number + 1) (omega arith) c.reach.ensures.before;
    } in
    let is_path : c.deref.result.now ≡ path_of w.segs w.crds number = c.deref.ensures.value ∙ c.reach.ensures.path in
    let is_front : front ≡ take c.args.long (path_of w.segs w.crds number) = ap (take c.args.long) is_path in
    let whole : length c.deref.result.now ≡ length w.segs = ap length c.deref.ensures.value ∙ stands.path in
    let enough : c.args.long ≤ length c.deref.result.now = rw whole c.requires.levels in
    let long : length front ≡ c.args.long = length-take-le c.args.long c.deref.result.now enough in
    let entry : List ℕ × ℕ = (path_of w.segs w.crds number, get_or w.vals number 0) in
    let before = c.loop-number.numbers.items in
    let told : ends_in front before ≡ c.ends_with.result = ap (ends_in front) (sym c.as_slice.ensures.value) ∙ sym c.ends_with.ensures in
    let few = c.loop-number.invariant.few in
    let counted = c.loop-number.invariant.count in
    elim c.if-not-ends_with.branch [
      | then-not-ends_with+in_ok-extend_from_slice b ↦
          let comes = front-comes c.args.long before front entry rest is_front long (told ∙ b.if-not-ends_with.true) in
          let left = ap (fronts_left c.args.long before) next ∙ comes in
          let more : c.if-not-ends_with.numbers.items ≡ before ++ front = rw b.numbers-is b.in_ok-extend_from_slice.ensures.items in
          let one = ap length left in
          record {
            stands = stands;
            numbers =
                rw (more, append_assoc before front (joined (fronts_left c.args.long (before ++ front) rest)))
                (ap (λ rows. before ++ joined rows) (sym left) ∙ c.loop-number.invariant.numbers);
            count = rw (b.count-is, more) (omega (arith, counted, one));
            few = rw b.count-is (omega (arith, few));
          }
      | else-not-ends_with b ↦
          let stays = front-stays c.args.long before front entry rest is_front long (told ∙ b.if-not-ends_with.false) in
          let left = ap (fronts_left c.args.long before) next ∙ stays in
          record {
            stands = stands;
            numbers = rw (b.numbers-is, ← left) c.loop-number.invariant.numbers;
            count = rw (b.numbers-is, b.count-is, ← left) c.loop-number.invariant.count;
            few = rw b.count-is (omega (arith, few));
          }
    ]
