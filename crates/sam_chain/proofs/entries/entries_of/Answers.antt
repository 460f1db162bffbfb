use Rattle.std.proofs.Common.{◌≡◌, ◌<◌, ◌≤◌, ◌+◌, length, ◌∙◌, arith}
use Rattle.tns_io.proofs.PathLemmas.{values-reached, not-past-next}
use Rattle.sam_model.proofs.AcceptedPrograms.{well-formed}
use Rattle.sam_chain.proofs.EntryLemmas.{path-on, entries-are}
use Rattle.sam_chain.proofs.entries.entries_of.Goals as goal

pub reach-requires-clause-there : goal.reach-requires-clause-there
reach-requires-clause-there c =
    values-reached _ c.args.w.now c.loop-number.number c.requires.in_range (rw c.len-number-end.ensures at c.loop-number-test.true)

pub loop-number-preserved : goal.loop-number-preserved
loop-number-preserved c =
    let less : c.loop-number.number < length c.args.w.now.vals = rw c.len-number-end.ensures at c.loop-number-test.true in
    record {
      stands = record {
        path = c.reach.ensures.levels ∙ c.loop-number.invariant.stands.path;
        fibers = c.reach.ensures.fibers ∙ c.loop-number.invariant.stands.fibers;
        before = not-past-next _ _ c.loop-number.number (c.loop-number.number + 1) (omega arith) c.reach.ensures.before;
      };
      same =
          rw (c.in_ok-append_coordinates.ensures, c.as_slice.ensures, c.as_slice-in-loop-number.ensures.value)
          (path-on c.args.declared.now.order c.args.w.now c.loop-number.number c.loop-number.coords _ less c.reach.ensures.path ∙ c.loop-number.invariant.same);
    }

pub returns : goal.returns
returns c =
    entries-are c.args.declared.now c.args.w.now c.loop-number.number _ _ _
    (rw c.len-number-end.ensures at c.loop-number-test.false)
    c.len-levels.ensures
    (c.from_vec.ensures ∙ c.in_ok-from_slice.ensures.items ∙ c.as_slice-2.ensures)
    (rw c.coords-2.view_is c.loop-number.invariant.same)
