use Rattle.std.proofs.Common.{◌≡◌, ◌<◌, ◌-◌, Some, length, slice_get, sym, ◌∙◌}
use Rattle.sam_model.proofs.AcceptedPrograms.{result-formed}
use Rattle.sam_chain.proofs.RunLemmas.{next-accepted, goes-on-with, goes-on-without}
use Rattle.sam_chain.proofs.run.ChainRun.give.Goals as goal
use Rattle.sam_chain.proofs.run.ChainRun.give.Goals.{then-len-gt0+in_ok-entries+in_ok-push, else-len-gt0}

pub entries_of-requires-clause-formed : goal.entries_of-requires-clause-formed
entries_of-requires-clause-formed c =
    result-formed c.get.result.now (next-accepted _ _ _ _ c.get.result.now c.self.invariant (rw (c.next.ensures, ← c.self.view_is) at c.get.ensures))

pub invariant_of-self-2 : goal.invariant_of-self-2
invariant_of-self-2 c =
    let at = rw (c.next.ensures, ← c.self.view_is) at c.get.ensures in
    let below = rw (← c.self.view_is) at c.requires.below in
    let tensor = rw (← c.self.view_is) at c.requires.tensor in
    elim c.if-len-gt0.branch [
      | then-len-gt0+in_ok-entries+in_ok-push w ↦
          rw w.self-inside-is
          (goes-on-with _ _ _ _ c.get.result.now c.self.invariant at c.args.w below tensor _ _ (rw c.len.ensures at w.if-len-gt0.true) w.in_ok-entries.ensures w.in_ok-push.ensures.ok).stands
      | else-len-gt0 w ↦
          rw w.self-inside-is (goes-on-without _ _ _ _ c.get.result.now c.self.invariant at c.args.w below tensor (rw c.len.ensures at w.if-len-gt0.false)).stands
    ]

pub returns-clause-given : goal.returns-clause-given
returns-clause-given c =
    let at = rw (c.next.ensures, ← c.self.view_is) at c.get.ensures in
    let below = rw (← c.self.view_is) at c.requires.below in
    let tensor = rw (← c.self.view_is) at c.requires.tensor in
    elim c.if-len-gt0.branch [
      | then-len-gt0+in_ok-entries+in_ok-push w ↦
          rw (w.self-inside-is, ← c.self.view_is)
          (goes-on-with _ _ _ _ c.get.result.now c.self.invariant at c.args.w below tensor _ _ (rw c.len.ensures at w.if-len-gt0.true) w.in_ok-entries.ensures w.in_ok-push.ensures.ok).view
      | else-len-gt0 w ↦
          rw (w.self-inside-is, ← c.self.view_is)
          (goes-on-without _ _ _ _ c.get.result.now c.self.invariant at c.args.w below tensor (rw c.len.ensures at w.if-len-gt0.false)).view
    ]
