use Rattle.std.proofs.Common.{◌≡◌, ◌++◌}
use mathlib.Core.List.{map}
use Rattle.sam_model.specs.Listing.{listing}
use Rattle.tns_io.specs.Closing.{merged}
use Rattle.tns_io.specs.Rows.{rows_of}
use Rattle.tns_io.specs.Walks.{StandsAt, listing_from}
use Rattle.tns_io.proofs.RowLemmas.{rows_left}
use Rattle.tns_io.proofs.closing.found.values_of.Given as goal

abbrev pub invariant-loop-path : goal.invariant-loop-path
invariant-loop-path l = record {
  stands : StandsAt l.levels l.w l.found.walk l.found.next;
  values :
      l.values ++ map (λ entry. entry.1) (merged (rows_left l.levels l.paths.count l.paths.numbers.items l.path) (listing_from l.w l.found.next))
      ≡ map (λ entry. entry.1) (merged (rows_of l.levels l.paths.count l.paths.numbers.items) (listing l.w));
}
