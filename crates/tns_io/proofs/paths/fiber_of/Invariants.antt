use Rattle.std.proofs.Common.{◌≤◌, ◌-◌}
use Rattle.sam_model.specs.Listing.{place_above}
use Rattle.tns_io.proofs.paths.fiber_of.Given as goal

abbrev pub invariant-loop-fiber : goal.invariant-loop-fiber
invariant-loop-fiber l = l.fiber ≤ place_above l.ends l.place

abbrev pub decreases-loop-fiber : goal.decreases-loop-fiber
decreases-loop-fiber l = place_above l.ends l.place - l.fiber
