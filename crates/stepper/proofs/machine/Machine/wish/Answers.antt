use Rattle.std.proofs.Common.{◌≡◌, ◌∙◌, sym, ap, slice_get, drop, Some}
use Rattle.block_core.specs.Move.{wish_of}
use Rattle.block_core.specs.Kind.{moves}
use Rattle.graph.specs.WholeStreams.{whole_inputs}
use Rattle.plays.proofs.Lists.{some_in}
use Rattle.stepper.proofs.machine.Machine.wish.Goals as goal

pub returns : goal.returns
returns g c = λ storages gr caps s h.
    let x = some_in c.args.self.now.blocks c.args.block c.requires in
    let at : slice_get c.deref.result.now c.args.block ≡ Some x.0 =
    ap (λ z. slice_get z c.args.block) (c.deref.ensures.value ∙ ap (λ m. m.blocks) c.self.view_is) ∙ x.1 in
    let k = h.standing.kinds c.args.block x.0 x.1 in
    let w = c.wish_at.ensures x.0 (whole_inputs storages gr c.args.block) (s c.args.block) at (h.standing.placed c.args.block x.0 x.1) in
    ap (λ z. wish_of (drop (s c.args.block) (moves z (whole_inputs storages gr c.args.block)))) (sym k) ∙ sym w
