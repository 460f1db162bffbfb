use Rattle.std.proofs.Common.{◌≡◌, ◌++◌, length}
use Rattle.std.specs.List.{flat_map}
use Rattle.sam_model.specs.Listing.{listing}
use Rattle.sam_model.specs.ResultText.{by_modes}
use Rattle.tns_io.specs.Walks.{StandsAt, listing_from}
use Rattle.sam_chain.proofs.entries.entries_of.Given as goal

abbrev pub invariant-loop-number : goal.invariant-loop-number
invariant-loop-number l = record {
  stands : StandsAt (length l.declared.order) l.w l.walk l.number;
  same :
      l.coords ++ flat_map (λ entry. by_modes l.declared.order entry.0) (listing_from l.w l.number)
      ≡ flat_map (λ entry. by_modes l.declared.order entry.0) (listing l.w);
}
