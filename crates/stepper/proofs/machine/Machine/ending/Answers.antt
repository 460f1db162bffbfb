use Rattle.std.proofs.Common.{◌∙◌, sym, ap, length, List}
use Rattle.sam_base.specs.declared.faults.Waiting.{Waiting}
use Rattle.stepper.specs.NetOf.{net_of, rooms_of}
use Rattle.stepper.proofs.Stepping.{same_stalled}
use Rattle.stepper.proofs.Stalling.{none_waiting, some_waiting, nil_of}
use Rattle.stepper.proofs.machine.Machine.ending.Goals as goal

pub returns-then-len-eq0-clause-finished : goal.returns-then-len-eq0-clause-finished
returns-then-len-eq0-clause-finished g c = λ z storages gr caps s h.
    none_waiting (net_of storages gr) (rooms_of caps) s h.kept
    (sym (c.in_ok-list.ensures storages gr caps s h) ∙ nil_of c.in_ok-list.list (sym c.len.ensures ∙ c.if-len-eq0.true))

pub returns-clause-stalled : goal.returns-clause-stalled
returns-clause-stalled g c = λ list z storages gr caps s h.
    let e = c.in_ok-list.ensures storages gr caps s h in (
      same_stalled c.in_ok-list.list list z ∙ e,
      some_waiting (net_of storages gr) s (λ none. c.if-len-eq0.false (c.len.ensures ∙ ap (λ (xs : List Waiting). length xs) (e ∙ none))),
    )
