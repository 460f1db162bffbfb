use Rattle.std.proofs.Common.{◌≡◌, ◌∙◌, sym, ap, subst, refl, slice_get, get_or, length, true, [], ◌∷◌, ◌++◌, arith}
use Rattle.std.proofs.lemmas.Option.{slice_get_read}
use Rattle.plays.specs.Net.{has_room}
use Rattle.plays.specs.Held.{Queued}
use Rattle.plays.proofs.Lists.{same_some, get_set_here}
use Rattle.plays.proofs.Tellings.{neither, not_full, put_back}
use Rattle.plays.proofs.Rests.{output_port, output_queue, put_lists, made_put, made_same, same_made}
use Rattle.stepper.proofs.ends.EndsPorts.put.Goals as goal

pub bounds-self-port : goal.bounds-self-port
bounds-self-port g c = output_port _ c.args.port c.args.t c.requires

pub index-requires : goal.index-requires
index-requires g c = let l = output_queue _ c.args.port c.args.t c.requires in omega (arith, l)

pub push_at-requires-clause-within : goal.push_at-requires-clause-within
push_at-requires-clause-within g c = output_queue _ c.args.port c.args.t c.requires

pub push_at-requires-clause-room : goal.push_at-requires-clause-room
push_at-requires-clause-room g c = λ x at.
    let q = slice_get_read c.args.self.now.queues.now.items _ (get_or c.args.self.now.outs.now c.args.port 0) c.index.result.now refl (output_queue _ c.args.port c.args.t c.requires) c.index.ensures in
    let e : c.index.result.now ≡ x = same_some _ x (sym q ∙ at) in
    subst (λ (z : Queued). has_room z.room (length z.tokens) ≡ true) e (not_full _ (neither _ _ (sym c.is_held.ensures ∙ c.if-is_held.false)))

pub on_put-told-requires : goal.on_put-told-requires
on_put-told-requires g c = put_lists _ c.args.port c.args.t c.requires

pub unpush_at-requires : goal.unpush_at-requires
unpush_at-requires g c = let l = output_queue _ c.args.port c.args.t c.requires in omega (arith, l, c.push_at.ensures.same_length)

pub returns-in-Err-clause-refused : goal.returns-in-Err-clause-refused
returns-in-Err-clause-refused g c =
    let l = output_queue _ c.args.port c.args.t c.requires in
    let place = get_or c.args.self.now.outs.now c.args.port 0 in
    let q = slice_get_read c.args.self.now.queues.now.items _ place c.index.result.now refl l c.index.ensures in
    let back : c.unpush_at.new.queues.items ≡ c.args.self.now.queues.now.items =
    put_back c.args.self.now.queues.now.items c.push_at.new.queues.items c.unpush_at.new.queues.items place c.index.result.now c.args.t q
    (c.in_ok-push_at.ensures.ok c.index.result.now q)
    (c.unpush_at.ensures.left (record { tokens = c.index.result.now.tokens ++ c.args.t ∷ []; room = c.index.result.now.room })
    (ap (λ z. slice_get z place) (c.in_ok-push_at.ensures.ok c.index.result.now q) ∙ get_set_here c.args.self.now.queues.now.items place _ l)) in
    made_same _ _ _ back c.in-Err.ensures.refused

pub returns-in-Err-clause-same_ends : goal.returns-in-Err-clause-same_ends
returns-in-Err-clause-same_ends g c =
    let l = output_queue _ c.args.port c.args.t c.requires in
    let place = get_or c.args.self.now.outs.now c.args.port 0 in
    let q = slice_get_read c.args.self.now.queues.now.items _ place c.index.result.now refl l c.index.ensures in
    let back : c.unpush_at.new.queues.items ≡ c.args.self.now.queues.now.items =
    put_back c.args.self.now.queues.now.items c.push_at.new.queues.items c.unpush_at.new.queues.items place c.index.result.now c.args.t q
    (c.in_ok-push_at.ensures.ok c.index.result.now q)
    (c.unpush_at.ensures.left (record { tokens = c.index.result.now.tokens ++ c.args.t ∷ []; room = c.index.result.now.room })
    (ap (λ z. slice_get z place) (c.in_ok-push_at.ensures.ok c.index.result.now q) ∙ get_set_here c.args.self.now.queues.now.items place _ l)) in
    (refl, refl, same_made _ _ _ (made_same _ _ _ back c.in-Err.ensures.refused))

pub returns-clause-put : goal.returns-clause-put
returns-clause-put g c = λ z.
    let l = output_queue _ c.args.port c.args.t c.requires in
    let q = slice_get_read c.args.self.now.queues.now.items _ (get_or c.args.self.now.outs.now c.args.port 0) c.index.result.now refl l c.index.ensures in
    made_put _ c.args.port c.args.t _ _ _ c.index.result.now q (neither _ _ (sym c.is_held.ensures ∙ c.if-is_held.false))
    (c.in_ok-push_at.ensures.ok c.index.result.now q) c.in_default.ensures.ok c.one_more-self.ensures

pub returns-clause-same_ends : goal.returns-clause-same_ends
returns-clause-same_ends g c =
    let l = output_queue _ c.args.port c.args.t c.requires in
    let q = slice_get_read c.args.self.now.queues.now.items _ (get_or c.args.self.now.outs.now c.args.port 0) c.index.result.now refl l c.index.ensures in (
      refl,
      refl,
      same_made _ _ _ (made_put _ c.args.port c.args.t _ _ _ c.index.result.now q (neither _ _ (sym c.is_held.ensures ∙ c.if-is_held.false))
          (c.in_ok-push_at.ensures.ok c.index.result.now q) c.in_default.ensures.ok c.one_more-self.ensures),
    )
