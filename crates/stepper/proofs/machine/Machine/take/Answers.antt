use Rattle.std.proofs.Common.{◌≡◌, ◌<◌, ◌∙◌, sym, ap, subst, refl, slice_get, length, arith, None, Some, false}
use Rattle.std.proofs.lemmas.Bool.{false≢true}
use Rattle.std.proofs.lemmas.Option.{slice_get_read}
use Rattle.block_core.specs.declared.Wish.TheVariants.{Take}
use Rattle.stepper.specs.Routes.{held_of}
use Rattle.stepper.specs.AtState.{AtState, Somewhere}
use Rattle.stepper.specs.Steps.{Wishes}
use Rattle.plays.proofs.Lists.{some_in}
use Rattle.stepper.proofs.Stepping.{same_blocked}
use Rattle.stepper.proofs.Taking.{take_block, take_place, take_queue, take_hindered, take_may, took, somewhere_after}
use Rattle.stepper.proofs.machine.Machine.take.Goals as goal

pub at-channel-requires-clause-block : goal.at-channel-requires-clause-block
at-channel-requires-clause-block g c =
    let wishes = (subst (Wishes g.B.BlockStep c.args.block (Take c.args.port)) (sym c.self.view_is) c.requires.wishes) in
    take_block g.B.BlockStep _ c.args.block c.args.port c.self.invariant wishes

pub at-channel-requires-clause-port : goal.at-channel-requires-clause-port
at-channel-requires-clause-port g c =
    let wishes = (subst (Wishes g.B.BlockStep c.args.block (Take c.args.port)) (sym c.self.view_is) c.requires.wishes) in
    take_place g.B.BlockStep _ c.args.block c.args.port c.self.invariant wishes

pub index-requires : goal.index-requires
index-requires g c =
    let wishes = (subst (Wishes g.B.BlockStep c.args.block (Take c.args.port)) (sym c.self.view_is) c.requires.wishes) in
    let l = take_queue g.B.BlockStep _ c.args.block c.args.port c.self.invariant wishes in
    omega (arith, l, c.at-channel.ensures)

pub returns-in_default-clause-blocked : goal.returns-in_default-clause-blocked
returns-in_default-clause-blocked g c = λ c' full z.
    let wishes = (subst (Wishes g.B.BlockStep c.args.block (Take c.args.port)) (sym c.self.view_is) c.requires.wishes) in
    let l = take_queue g.B.BlockStep _ c.args.block c.args.port c.self.invariant wishes in
    let lq : c.at-channel.result < length c.self.inside.queues.items = omega (arith, l, c.at-channel.ensures) in
    let q = slice_get_read _ _ c.at-channel.result c.index.result.now refl lq c.index.ensures in
    let hindered = take_hindered g.B.BlockStep _ c.args.block c.args.port wishes c.at-channel.result c.at-channel.ensures c.index.result.now q (sym c.front.ensures ∙ c.in_default.is) in (
      refl,
      λ storages gr caps s h.
          hindered storages gr caps s (subst (AtState g.B.BlockStep storages gr caps s) (sym c.self.view_is) h)
          ∙ same_blocked c.at-channel.result c' false full z,
    )

pub take_at-requires-clause-may : goal.take_at-requires-clause-may
take_at-requires-clause-may g c =
    let wishes = (subst (Wishes g.B.BlockStep c.args.block (Take c.args.port)) (sym c.self.view_is) c.requires.wishes) in
    let lb : c.args.block < length c.self.inside.blocks.items = let e = ap (λ z. length z.blocks) c.self.view_is in omega (arith, e, c.requires.within) in
    let l = take_queue g.B.BlockStep _ c.args.block c.args.port c.self.invariant wishes in
    let lq : c.at-channel.result < length c.self.inside.queues.items = omega (arith, l, c.at-channel.ensures) in
    let q = slice_get_read _ _ c.at-channel.result c.index.result.now refl lq c.index.ensures in
    let front = sym c.front.ensures ∙ c.in-Some.is in
    take_may g.B.BlockStep _ c.args.block c.args.port wishes lb c.at-channel.result c.at-channel.ensures c.index.result.now q c.in-Some.t front c.self.invariant

pub invariant_of-self : goal.invariant_of-self
invariant_of-self g c =
    subst (λ z. ∥ (Somewhere g.B.BlockStep (held_of z c.self.inside.queues.items c.self.inside.moves c.self.inside.plan)) ∥₁)
    (sym c.in_err-take_at.ensures.refused) c.self.invariant

pub returns-in_err-take_at-clause-sure : goal.returns-in_err-take_at-clause-sure
returns-in_err-take_at-clause-sure g c = λ z.
    let lb : c.args.block < length c.self.inside.blocks.items = let e = ap (λ z. length z.blocks) c.self.view_is in omega (arith, e, c.requires.within) in
    let x = some_in c.self.inside.blocks.items c.args.block lb in
    let old : slice_get c.args.self.now.blocks c.args.block ≡ Some x.0 = ap (λ m. slice_get m.blocks c.args.block) (sym c.self.view_is) ∙ x.1 in
    absurd (false≢true (c.in_err-take_at.ensures.sure x.0 x.1 (z x.0 old)))

pub pop_at-requires : goal.pop_at-requires
pop_at-requires g c =
    let wishes = (subst (Wishes g.B.BlockStep c.args.block (Take c.args.port)) (sym c.self.view_is) c.requires.wishes) in
    let l = take_queue g.B.BlockStep _ c.args.block c.args.port c.self.invariant wishes in
    omega (arith, l, c.at-channel.ensures)

pub invariant_of-self-2 : goal.invariant_of-self-2
invariant_of-self-2 g c =
    let wishes = (subst (Wishes g.B.BlockStep c.args.block (Take c.args.port)) (sym c.self.view_is) c.requires.wishes) in
    let lb : c.args.block < length c.self.inside.blocks.items = let e = ap (λ z. length z.blocks) c.self.view_is in omega (arith, e, c.requires.within) in
    let l = take_queue g.B.BlockStep _ c.args.block c.args.port c.self.invariant wishes in
    let lq : c.at-channel.result < length c.self.inside.queues.items = omega (arith, l, c.at-channel.ensures) in
    let q = slice_get_read _ _ c.at-channel.result c.index.result.now refl lq c.index.ensures in
    let front = sym c.front.ensures ∙ c.in-Some.is in
    somewhere_after g.B.BlockStep _ _ c.args.block None None
    (took g.B.BlockStep _ c.args.block c.args.port wishes lb c.at-channel.result c.at-channel.ensures c.index.result.now q c.in-Some.t front
    _ c.in_ok-take_at.ensures.moved _ (c.pop_at.ensures.left c.index.result.now q) _ c.one_more-self-inside.ensures None)
    c.self.invariant

pub returns-clause-moved : goal.returns-clause-moved
returns-clause-moved g c = λ z told storages gr caps s h.
    let wishes = (subst (Wishes g.B.BlockStep c.args.block (Take c.args.port)) (sym c.self.view_is) c.requires.wishes) in
    let lb : c.args.block < length c.self.inside.blocks.items = let e = ap (λ z. length z.blocks) c.self.view_is in omega (arith, e, c.requires.within) in
    let l = take_queue g.B.BlockStep _ c.args.block c.args.port c.self.invariant wishes in
    let lq : c.at-channel.result < length c.self.inside.queues.items = omega (arith, l, c.at-channel.ensures) in
    let q = slice_get_read _ _ c.at-channel.result c.index.result.now refl lq c.index.ensures in
    let front = sym c.front.ensures ∙ c.in-Some.is in
    (took g.B.BlockStep _ c.args.block c.args.port wishes lb c.at-channel.result c.at-channel.ensures c.index.result.now q c.in-Some.t front
    _ c.in_ok-take_at.ensures.moved _ (c.pop_at.ensures.left c.index.result.now q) _ c.one_more-self-inside.ensures told)
    storages gr caps s (subst (AtState g.B.BlockStep storages gr caps s) (sym c.self.view_is) h)

pub returns-clause-same_shape : goal.returns-clause-same_shape
returns-clause-same_shape g c = (
  c.take_at.ensures.same_length ∙ ap (λ z. length z.blocks) c.self.view_is,
  c.pop_at.ensures.same_length ∙ ap (λ z. length z.queues) c.self.view_is,
  ap (λ z. z.routes) c.self.view_is,
)
