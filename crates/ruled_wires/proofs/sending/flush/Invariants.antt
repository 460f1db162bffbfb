use Rattle.ruled_wires.specs.Ends.{AllOnwards}
use Rattle.ruled_wires.proofs.sending.flush.Given as goal

abbrev pub invariant-loop : goal.invariant-loop
invariant-loop g l = record {
  can_next : (goal.iterator-loop g).can_next l.iterator';
  is_finite : (goal.iterator-loop g).is_finite l.iterator';
  onwards : AllOnwards l.fn.outs l.outs;
}
