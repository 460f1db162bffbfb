use Rattle.std.proofs.Common.{◌≡◌, ◌≤◌, ◌+◌, ◌++◌, length}
use Rattle.sam_model.specs.Listing.{listing}
use Rattle.tns_io.specs.Fronts.{fronts}
use Rattle.tns_io.specs.Rows.{joined}
use Rattle.tns_io.specs.Walks.{StandsAt, listing_from}
use Rattle.tns_io.proofs.FrontLemmas.{fronts_left}
use Rattle.tns_io.proofs.closing.fronts.fronts_of.Given as goal

abbrev pub invariant-loop-number : goal.invariant-loop-number
invariant-loop-number l = record {
  stands : StandsAt (length l.w.segs) l.w l.walk l.number;
  numbers : l.numbers.items ++ joined (fronts_left l.long l.numbers.items (listing_from l.w l.number)) ≡ joined (fronts l.long (listing l.w));
  count : l.count + length (fronts_left l.long l.numbers.items (listing_from l.w l.number)) ≡ length (fronts l.long (listing l.w));
  few : l.count ≤ l.number;
}
