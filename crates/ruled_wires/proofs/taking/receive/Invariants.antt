use Rattle.std.proofs.Common.{◌≡◌}
use Rattle.ruled_wires.specs.Passes.{known}
use Rattle.crossbeam_channel.specs.Claims.{IsSeatAt}
use Rattle.crossbeam_channel.specs.Ends.{receives_on}
use Rattle.ruled_wires.proofs.taking.receive.Given as goal

abbrev pub invariant-loop : goal.invariant-loop
invariant-loop g l = record {
  can_next : (goal.iterator-loop g).can_next l.iterator';
  is_finite : (goal.iterator-loop g).is_finite l.iterator';
  seat : IsSeatAt (receives_on l.receiver) l.pass;
  view : known l.pass ≡ known l.fn.pass;
}
