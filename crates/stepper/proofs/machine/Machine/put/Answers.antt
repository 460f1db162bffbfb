use Rattle.std.proofs.Common.{◌≡◌, ◌<◌, ◌∙◌, sym, ap, subst, refl, slice_get, length, arith, [], ◌∷◌, ◌++◌, Some, true}
use Rattle.std.proofs.lemmas.Bool.{false≢true}
use Rattle.std.proofs.lemmas.Option.{slice_get_read}
use Rattle.block_core.specs.declared.Wish.TheVariants.{Put}
use Rattle.plays.specs.Net.{has_room}
use Rattle.plays.specs.Held.{Queued, at_port}
use Rattle.stepper.specs.Routes.{held_of}
use Rattle.stepper.specs.AtState.{AtState, Somewhere}
use Rattle.plays.specs.Told.{HasLists}
use Rattle.stepper.specs.Steps.{Wishes}
use Rattle.plays.proofs.Lists.{same_some, get_set_here}
use Rattle.stepper.proofs.Stepping.{same_blocked}
use Rattle.stepper.proofs.Taking.{somewhere_after}
use Rattle.plays.proofs.Tellings.{not_full, put_back, lists_fewer}
use Rattle.stepper.proofs.Putting.{put_block, put_place, put_queue, put_hindered, put_may, put}
use Rattle.stepper.proofs.machine.Machine.put.Goals as goal

pub at-channel-requires-clause-block : goal.at-channel-requires-clause-block
at-channel-requires-clause-block g c =
    let wishes = subst (Wishes g.B.BlockStep c.args.block (Put c.args.port c.args.t)) (sym c.self.view_is) c.requires.wishes in
    put_block g.B.BlockStep _ c.args.block c.args.port c.args.t c.self.invariant wishes

pub at-channel-requires-clause-port : goal.at-channel-requires-clause-port
at-channel-requires-clause-port g c =
    let wishes = subst (Wishes g.B.BlockStep c.args.block (Put c.args.port c.args.t)) (sym c.self.view_is) c.requires.wishes in
    put_place g.B.BlockStep _ c.args.block c.args.port c.args.t c.self.invariant wishes

pub index-requires : goal.index-requires
index-requires g c =
    let wishes = subst (Wishes g.B.BlockStep c.args.block (Put c.args.port c.args.t)) (sym c.self.view_is) c.requires.wishes in
    let l = put_queue g.B.BlockStep _ c.args.block c.args.port c.args.t c.self.invariant wishes in
    omega (arith, l, c.at-channel.ensures)

pub returns-then-is_full-clause-blocked : goal.returns-then-is_full-clause-blocked
returns-then-is_full-clause-blocked g c = λ c' full z.
    let wishes = subst (Wishes g.B.BlockStep c.args.block (Put c.args.port c.args.t)) (sym c.self.view_is) c.requires.wishes in
    let l = put_queue g.B.BlockStep _ c.args.block c.args.port c.args.t c.self.invariant wishes in
    let lq : c.at-channel.result < length c.self.inside.queues.items = omega (arith, l, c.at-channel.ensures) in
    let q = slice_get_read _ _ c.at-channel.result c.index.result.now refl lq c.index.ensures in
    let hindered = put_hindered g.B.BlockStep _ c.args.block c.args.port c.args.t wishes c.at-channel.result c.at-channel.ensures c.index.result.now q (sym c.is_full.ensures ∙ c.if-is_full.true) in (
      refl,
      refl,
      λ storages gr caps s h.
          hindered storages gr caps s (subst (AtState g.B.BlockStep storages gr caps s) (sym c.self.view_is) h)
          ∙ same_blocked c.at-channel.result c' true full z,
    )

pub push_at-requires-clause-within : goal.push_at-requires-clause-within
push_at-requires-clause-within g c =
    let wishes = subst (Wishes g.B.BlockStep c.args.block (Put c.args.port c.args.t)) (sym c.self.view_is) c.requires.wishes in
    let l = put_queue g.B.BlockStep _ c.args.block c.args.port c.args.t c.self.invariant wishes in
    omega (arith, l, c.at-channel.ensures)

pub push_at-requires-clause-room : goal.push_at-requires-clause-room
push_at-requires-clause-room g c = λ x at.
    let wishes = subst (Wishes g.B.BlockStep c.args.block (Put c.args.port c.args.t)) (sym c.self.view_is) c.requires.wishes in
    let l = put_queue g.B.BlockStep _ c.args.block c.args.port c.args.t c.self.invariant wishes in
    let lq : c.at-channel.result < length c.self.inside.queues.items = omega (arith, l, c.at-channel.ensures) in
    let q = slice_get_read _ _ c.at-channel.result c.index.result.now refl lq c.index.ensures in
    let e : c.index.result.now ≡ x = same_some _ x (sym q ∙ at) in
    subst (λ (z : Queued). has_room z.room (length z.tokens) ≡ true) e (not_full _ (sym c.is_full.ensures ∙ c.if-is_full.false))

pub invariant_of-self : goal.invariant_of-self
invariant_of-self g c =
    subst (λ z. ∥ (Somewhere g.B.BlockStep (held_of c.self.inside.blocks.items z c.self.inside.moves c.self.inside.plan)) ∥₁)
    (sym c.in_err-push_at.ensures.refused) c.self.invariant

pub returns-in_err-push_at-clause-sure : goal.returns-in_err-push_at-clause-sure
returns-in_err-push_at-clause-sure g c = λ bounded sure.
    let wishes = subst (Wishes g.B.BlockStep c.args.block (Put c.args.port c.args.t)) (sym c.self.view_is) c.requires.wishes in
    let l = put_queue g.B.BlockStep _ c.args.block c.args.port c.args.t c.self.invariant wishes in
    let lq : c.at-channel.result < length c.self.inside.queues.items = omega (arith, l, c.at-channel.ensures) in
    let q = slice_get_read _ _ c.at-channel.result c.index.result.now refl lq c.index.ensures in
    let at = subst (λ m. slice_get m.queues (at_port m.routes.outs c.args.block c.args.port) ≡ Some c.index.result.now) c.self.view_is
    (ap (slice_get c.self.inside.queues.items) (sym c.at-channel.ensures) ∙ q) in
    absurd (false≢true (c.in_err-push_at.ensures.sure c.index.result.now q (bounded c.index.result.now at)))

pub on_put-told-requires : goal.on_put-told-requires
on_put-told-requires g c =
    let wishes = subst (Wishes g.B.BlockStep c.args.block (Put c.args.port c.args.t)) (sym c.self.view_is) c.requires.wishes in
    let l = put_queue g.B.BlockStep _ c.args.block c.args.port c.args.t c.self.invariant wishes in
    let lq : c.at-channel.result < length c.self.inside.queues.items = omega (arith, l, c.at-channel.ensures) in
    let lists = subst (λ m. HasLists (length m.queues) (g.T.Tap.told c.args.tap.now)) (sym c.self.view_is) c.requires.lists in
    lists_fewer _ _ (g.T.Tap.told c.args.tap.now) (omega (arith, lq)) lists

pub unpush_at-requires : goal.unpush_at-requires
unpush_at-requires g c =
    let wishes = subst (Wishes g.B.BlockStep c.args.block (Put c.args.port c.args.t)) (sym c.self.view_is) c.requires.wishes in
    let l = put_queue g.B.BlockStep _ c.args.block c.args.port c.args.t c.self.invariant wishes in
    let lq : c.at-channel.result < length c.self.inside.queues.items = omega (arith, l, c.at-channel.ensures) in
    omega (arith, lq, c.push_at.ensures.same_length)

pub invariant_of-self-in-Err : goal.invariant_of-self-in-Err
invariant_of-self-in-Err g c =
    let wishes = subst (Wishes g.B.BlockStep c.args.block (Put c.args.port c.args.t)) (sym c.self.view_is) c.requires.wishes in
    let l = put_queue g.B.BlockStep _ c.args.block c.args.port c.args.t c.self.invariant wishes in
    let lq : c.at-channel.result < length c.self.inside.queues.items = omega (arith, l, c.at-channel.ensures) in
    let q = slice_get_read _ _ c.at-channel.result c.index.result.now refl lq c.index.ensures in
    let back = put_back c.self.inside.queues.items c.push_at.new.queues.items c.unpush_at.new.queues.items c.at-channel.result c.index.result.now c.args.t q
    (c.in_ok-push_at.ensures.ok c.index.result.now q)
    (c.unpush_at.ensures.left (record { tokens = c.index.result.now.tokens ++ c.args.t ∷ []; room = c.index.result.now.room })
    (ap (λ z. slice_get z c.at-channel.result) (c.in_ok-push_at.ensures.ok c.index.result.now q) ∙ get_set_here c.self.inside.queues.items c.at-channel.result _ lq)) in
    subst (λ z. ∥ (Somewhere g.B.BlockStep (held_of c.self.inside.blocks.items z c.self.inside.moves c.self.inside.plan)) ∥₁)
    (sym back) c.self.invariant

pub returns-in-Err-clause-refused : goal.returns-in-Err-clause-refused
returns-in-Err-clause-refused g c =
    let wishes = subst (Wishes g.B.BlockStep c.args.block (Put c.args.port c.args.t)) (sym c.self.view_is) c.requires.wishes in
    let l = put_queue g.B.BlockStep _ c.args.block c.args.port c.args.t c.self.invariant wishes in
    let lq : c.at-channel.result < length c.self.inside.queues.items = omega (arith, l, c.at-channel.ensures) in
    let q = slice_get_read _ _ c.at-channel.result c.index.result.now refl lq c.index.ensures in
    let back = put_back c.self.inside.queues.items c.push_at.new.queues.items c.unpush_at.new.queues.items c.at-channel.result c.index.result.now c.args.t q
    (c.in_ok-push_at.ensures.ok c.index.result.now q)
    (c.unpush_at.ensures.left (record { tokens = c.index.result.now.tokens ++ c.args.t ∷ []; room = c.index.result.now.room })
    (ap (λ z. slice_get z c.at-channel.result) (c.in_ok-push_at.ensures.ok c.index.result.now q) ∙ get_set_here c.self.inside.queues.items c.at-channel.result _ lq)) in (
      ap (λ z. held_of c.self.inside.blocks.items z c.self.inside.moves c.self.inside.plan) back ∙ c.self.view_is,
      c.in-Err.ensures.refused,
    )

pub did_put_at-requires-clause-may : goal.did_put_at-requires-clause-may
did_put_at-requires-clause-may g c =
    let wishes = subst (Wishes g.B.BlockStep c.args.block (Put c.args.port c.args.t)) (sym c.self.view_is) c.requires.wishes in
    let lb : c.args.block < length c.self.inside.blocks.items = let e = ap (λ z. length z.blocks) c.self.view_is in omega (arith, e, c.requires.within) in
    put_may g.B.BlockStep _ c.args.block c.args.port c.args.t wishes lb c.self.invariant

pub invariant_of-self-2 : goal.invariant_of-self-2
invariant_of-self-2 g c =
    let wishes = subst (Wishes g.B.BlockStep c.args.block (Put c.args.port c.args.t)) (sym c.self.view_is) c.requires.wishes in
    let lb : c.args.block < length c.self.inside.blocks.items = let e = ap (λ z. length z.blocks) c.self.view_is in omega (arith, e, c.requires.within) in
    let l = put_queue g.B.BlockStep _ c.args.block c.args.port c.args.t c.self.invariant wishes in
    let lq : c.at-channel.result < length c.self.inside.queues.items = omega (arith, l, c.at-channel.ensures) in
    let q = slice_get_read _ _ c.at-channel.result c.index.result.now refl lq c.index.ensures in
    let lists = subst (λ m. HasLists (length m.queues) (g.T.Tap.told c.args.tap.now)) (sym c.self.view_is) c.requires.lists in
    somewhere_after g.B.BlockStep _ _ c.args.block (g.T.Tap.told c.args.tap.now) (g.T.Tap.told c.on_put-told.new.self)
    (put g.B.BlockStep _ c.args.block c.args.port c.args.t wishes lb c.at-channel.result c.at-channel.ensures c.index.result.now q (sym c.is_full.ensures ∙ c.if-is_full.false)
    _ c.did_put_at.ensures.moved _ (c.in_ok-push_at.ensures.ok c.index.result.now q) _ c.one_more-self-inside.ensures
    (g.T.Tap.told c.args.tap.now) (g.T.Tap.told c.on_put-told.new.self) lists c.in_default.ensures.ok)
    c.self.invariant

pub returns-clause-moved : goal.returns-clause-moved
returns-clause-moved g c = λ z storages gr caps s h.
    let wishes = subst (Wishes g.B.BlockStep c.args.block (Put c.args.port c.args.t)) (sym c.self.view_is) c.requires.wishes in
    let lb : c.args.block < length c.self.inside.blocks.items = let e = ap (λ z. length z.blocks) c.self.view_is in omega (arith, e, c.requires.within) in
    let l = put_queue g.B.BlockStep _ c.args.block c.args.port c.args.t c.self.invariant wishes in
    let lq : c.at-channel.result < length c.self.inside.queues.items = omega (arith, l, c.at-channel.ensures) in
    let q = slice_get_read _ _ c.at-channel.result c.index.result.now refl lq c.index.ensures in
    let lists = subst (λ m. HasLists (length m.queues) (g.T.Tap.told c.args.tap.now)) (sym c.self.view_is) c.requires.lists in
    put g.B.BlockStep _ c.args.block c.args.port c.args.t wishes lb c.at-channel.result c.at-channel.ensures c.index.result.now q (sym c.is_full.ensures ∙ c.if-is_full.false)
    _ c.did_put_at.ensures.moved _ (c.in_ok-push_at.ensures.ok c.index.result.now q) _ c.one_more-self-inside.ensures
    (g.T.Tap.told c.args.tap.now) (g.T.Tap.told c.on_put-told.new.self) lists c.in_default.ensures.ok
    storages gr caps s (subst (AtState g.B.BlockStep storages gr caps s) (sym c.self.view_is) h)
