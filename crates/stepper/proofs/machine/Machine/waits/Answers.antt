use Rattle.std.proofs.Common.{◌∙◌, sym, subst}
use Rattle.block_core.specs.declared.Wish.TheVariants.{Take, Put}
use Rattle.stepper.specs.AtState.{AtState}
use Rattle.stepper.specs.Steps.{Wishes}
use Rattle.stepper.proofs.Taking.{take_block, take_place}
use Rattle.stepper.proofs.Putting.{put_block, put_place}
use Rattle.stepper.proofs.Stalling.{waits_take, waits_put, waits_none}
use Rattle.stepper.proofs.machine.Machine.waits.Goals as goal

pub at-requires-clause-block : goal.at-requires-clause-block
at-requires-clause-block g c =
    let wishes = subst (Wishes g.B.BlockStep c.args.block (Take c.in-Take.port)) (sym c.self.view_is) (λ storages gr caps s h. c.wish.ensures storages gr caps s h ∙ c.in-Take.is) in
    take_block g.B.BlockStep _ c.args.block c.in-Take.port c.self.invariant wishes

pub at-requires-clause-port : goal.at-requires-clause-port
at-requires-clause-port g c =
    let wishes = subst (Wishes g.B.BlockStep c.args.block (Take c.in-Take.port)) (sym c.self.view_is) (λ storages gr caps s h. c.wish.ensures storages gr caps s h ∙ c.in-Take.is) in
    take_place g.B.BlockStep _ c.args.block c.in-Take.port c.self.invariant wishes

pub at-requires-in-Put-clause-block : goal.at-requires-in-Put-clause-block
at-requires-in-Put-clause-block g c =
    let wishes = subst (Wishes g.B.BlockStep c.args.block (Put c.in-Put.port c.in-Put.field-1)) (sym c.self.view_is) (λ storages gr caps s h. c.wish.ensures storages gr caps s h ∙ c.in-Put.is) in
    put_block g.B.BlockStep _ c.args.block c.in-Put.port c.in-Put.field-1 c.self.invariant wishes

pub at-requires-in-Put-clause-port : goal.at-requires-in-Put-clause-port
at-requires-in-Put-clause-port g c =
    let wishes = subst (Wishes g.B.BlockStep c.args.block (Put c.in-Put.port c.in-Put.field-1)) (sym c.self.view_is) (λ storages gr caps s h. c.wish.ensures storages gr caps s h ∙ c.in-Put.is) in
    put_place g.B.BlockStep _ c.args.block c.in-Put.port c.in-Put.field-1 c.self.invariant wishes

pub returns-in-Take : goal.returns-in-Take
returns-in-Take g c = λ storages gr caps s h.
    let wishes = subst (Wishes g.B.BlockStep c.args.block (Take c.in-Take.port)) (sym c.self.view_is) (λ storages gr caps s h. c.wish.ensures storages gr caps s h ∙ c.in-Take.is) in
    waits_take g.B.BlockStep _ c.args.block c.in-Take.port c.at.result wishes c.at.ensures storages gr caps s (subst (AtState g.B.BlockStep storages gr caps s) (sym c.self.view_is) h)

pub returns-in-Put : goal.returns-in-Put
returns-in-Put g c = λ storages gr caps s h.
    let wishes = subst (Wishes g.B.BlockStep c.args.block (Put c.in-Put.port c.in-Put.field-1)) (sym c.self.view_is) (λ storages gr caps s h. c.wish.ensures storages gr caps s h ∙ c.in-Put.is) in
    waits_put g.B.BlockStep _ c.args.block c.in-Put.port c.at-in-Put.result c.in-Put.field-1 wishes c.at-in-Put.ensures storages gr caps s (subst (AtState g.B.BlockStep storages gr caps s) (sym c.self.view_is) h)

pub returns-in-Finished : goal.returns-in-Finished
returns-in-Finished g c =
    waits_none g.B.BlockStep c.args.self.now c.args.block (λ storages gr caps s h. c.wish.ensures storages gr caps s h ∙ c.in-Finished.is)
