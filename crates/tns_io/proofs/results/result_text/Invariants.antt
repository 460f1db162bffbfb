use Rattle.std.proofs.Common.{◌≡◌, ◌++◌, length, true}
use Rattle.std.specs.List.{list_all}
use Rattle.sam_model.specs.Lists.{items_at, within}
use Rattle.sam_model.specs.ResultText.{listing_text}
use Rattle.sam_model.specs.Listing.{listing}
use Rattle.tns_io.specs.Walks.{StandsAt, listing_from}
use Rattle.tns_io.proofs.results.result_text.Given as goal

abbrev pub invariant-loop-number : goal.invariant-loop-number
invariant-loop-number l = record {
  stands : StandsAt (length l.declared.order) l.w l.walk l.number;
  below : list_all (λ entry. within (items_at l.declared.dims l.declared.order) entry.0) (listing_from l.w l.number) ≡ true;
  same : l.text ++ listing_text l.declared.order (listing_from l.w l.number) ≡ listing_text l.declared.order (listing l.w);
}
