use Rattle.std.proofs.Common.{◌≡◌, ◌∙◌, sym, ap, subst, refl, slice_get, get_or, length, true, [], ◌∷◌, ◌++◌, arith}
use Rattle.std.proofs.lemmas.Option.{slice_get_read}
use Rattle.plays.specs.Net.{has_room}
use Rattle.plays.specs.Held.{Queued}
use Rattle.plays.proofs.Lists.{same_some, get_set_here}
use Rattle.plays.proofs.Tellings.{neither, not_full, put_back}
use Rattle.plays.proofs.Rests.{pushed, made_same, same_made}
use Rattle.plays.proofs.Relays.{relay_in_port, relay_in_queue, relay_out_port, relay_out_queue, relay_lists}
use Rattle.plays.proofs.Relays.{relay_apart, made_relay, relay_waits, relay_same, still_there}
use Rattle.stepper.specs.EndsView.{seen}
use Rattle.stepper.proofs.ends.Ends.relay_one.Goals as goal

pub bounds-self-to : goal.bounds-self-to
bounds-self-to g c = relay_out_port _ c.args.from c.args.to c.args.t c.requires.may

pub index-requires : goal.index-requires
index-requires g c = let l = relay_out_queue _ c.args.from c.args.to c.args.t c.requires.may in omega (arith, l)

pub push_at-requires-clause-within : goal.push_at-requires-clause-within
push_at-requires-clause-within g c = relay_out_queue _ c.args.from c.args.to c.args.t c.requires.may

pub push_at-requires-clause-room : goal.push_at-requires-clause-room
push_at-requires-clause-room g c = λ x at.
    let q = slice_get_read c.args.self.now.queues.now.items _ (get_or c.args.self.now.outs.now c.args.to 0) c.index.result.now refl (relay_out_queue _ c.args.from c.args.to c.args.t c.requires.may) c.index.ensures in
    let e : c.index.result.now ≡ x = same_some _ x (sym q ∙ at) in
    subst (λ (z : Queued). has_room z.room (length z.tokens) ≡ true) e (not_full _ (neither _ _ (sym c.is_held.ensures ∙ c.if-is_held.false)))

pub on_put-told-requires : goal.on_put-told-requires
on_put-told-requires g c = relay_lists _ c.args.from c.args.to c.args.t c.requires.may

pub unpush_at-requires : goal.unpush_at-requires
unpush_at-requires g c = let l = relay_out_queue _ c.args.from c.args.to c.args.t c.requires.may in omega (arith, l, c.push_at.ensures.same_length)

pub returns-in-Err-clause-refused : goal.returns-in-Err-clause-refused
returns-in-Err-clause-refused g c =
    let l = relay_out_queue _ c.args.from c.args.to c.args.t c.requires.may in
    let place = get_or c.args.self.now.outs.now c.args.to 0 in
    let q = slice_get_read c.args.self.now.queues.now.items _ place c.index.result.now refl l c.index.ensures in
    let back : c.unpush_at.new.queues.items ≡ c.args.self.now.queues.now.items =
    put_back c.args.self.now.queues.now.items c.push_at.new.queues.items c.unpush_at.new.queues.items place c.index.result.now c.args.t q
    (c.in_ok-push_at.ensures.ok c.index.result.now q)
    (c.unpush_at.ensures.left (record { tokens = c.index.result.now.tokens ++ c.args.t ∷ []; room = c.index.result.now.room })
    (ap (λ z. slice_get z place) (c.in_ok-push_at.ensures.ok c.index.result.now q) ∙ get_set_here c.args.self.now.queues.now.items place _ l)) in
    made_same _ _ _ back c.in-Err.ensures.refused

pub returns-in-Err-clause-same_ends : goal.returns-in-Err-clause-same_ends
returns-in-Err-clause-same_ends g c =
    let l = relay_out_queue _ c.args.from c.args.to c.args.t c.requires.may in
    let place = get_or c.args.self.now.outs.now c.args.to 0 in
    let q = slice_get_read c.args.self.now.queues.now.items _ place c.index.result.now refl l c.index.ensures in
    let back : c.unpush_at.new.queues.items ≡ c.args.self.now.queues.now.items =
    put_back c.args.self.now.queues.now.items c.push_at.new.queues.items c.unpush_at.new.queues.items place c.index.result.now c.args.t q
    (c.in_ok-push_at.ensures.ok c.index.result.now q)
    (c.unpush_at.ensures.left (record { tokens = c.index.result.now.tokens ++ c.args.t ∷ []; room = c.index.result.now.room })
    (ap (λ z. slice_get z place) (c.in_ok-push_at.ensures.ok c.index.result.now q) ∙ get_set_here c.args.self.now.queues.now.items place _ l)) in
    (same_made _ _ _ (made_same _ _ _ back c.in-Err.ensures.refused))

pub bounds-ins-from : goal.bounds-ins-from
bounds-ins-from g c = relay_in_port _ c.args.from c.args.to c.args.t c.requires.may

pub pop_at-requires : goal.pop_at-requires
pop_at-requires g c = let l = relay_in_queue _ c.args.from c.args.to c.args.t c.requires.may in omega (arith, l, c.push_at.ensures.same_length)

pub returns-clause-relayed : goal.returns-clause-relayed
returns-clause-relayed g c = λ z u first.
    let l = relay_out_queue _ c.args.from c.args.to c.args.t c.requires.may in
    let lc = relay_in_queue _ c.args.from c.args.to c.args.t c.requires.may in
    let apart = relay_apart _ c.args.from c.args.to c.args.t c.requires.may in
    let q = slice_get_read c.args.self.now.queues.now.items _ (get_or c.args.self.now.outs.now c.args.to 0) c.index.result.now refl l c.index.ensures in
    let eq1 = c.in_ok-push_at.ensures.ok c.index.result.now q in
    let still = still_there (seen g.T.Tap c.args.self.now) c.args.from c.args.to (pushed c.index.result.now c.args.t) c.push_at.new.queues.items apart lc eq1 in
    let eq2 = c.pop_at.ensures.left _ still in
    made_relay (seen g.T.Tap c.args.self.now) c.args.from c.args.to u c.args.t c.push_at.new.queues.items _ _ _ _ c.index.result.now first apart lc q (neither _ _ (sym c.is_held.ensures ∙ c.if-is_held.false)) eq1 eq2
    c.in_default.ensures.ok c.one_more.ensures c.one_more-self.ensures

pub returns-clause-left : goal.returns-clause-left
returns-clause-left g c = λ z.
    let l = relay_out_queue _ c.args.from c.args.to c.args.t c.requires.may in
    let lc = relay_in_queue _ c.args.from c.args.to c.args.t c.requires.may in
    let apart = relay_apart _ c.args.from c.args.to c.args.t c.requires.may in
    let q = slice_get_read c.args.self.now.queues.now.items _ (get_or c.args.self.now.outs.now c.args.to 0) c.index.result.now refl l c.index.ensures in
    let eq1 = c.in_ok-push_at.ensures.ok c.index.result.now q in
    let still = still_there (seen g.T.Tap c.args.self.now) c.args.from c.args.to (pushed c.index.result.now c.args.t) c.push_at.new.queues.items apart lc eq1 in
    let eq2 = c.pop_at.ensures.left _ still in
    relay_waits (seen g.T.Tap c.args.self.now) c.args.from c.push_at.new.queues.items c.pop_at.new.queues.items (omega (arith, lc, c.push_at.ensures.same_length)) eq2

pub returns-clause-same_ends : goal.returns-clause-same_ends
returns-clause-same_ends g c =
    let l = relay_out_queue _ c.args.from c.args.to c.args.t c.requires.may in
    let lc = relay_in_queue _ c.args.from c.args.to c.args.t c.requires.may in
    let apart = relay_apart _ c.args.from c.args.to c.args.t c.requires.may in
    let q = slice_get_read c.args.self.now.queues.now.items _ (get_or c.args.self.now.outs.now c.args.to 0) c.index.result.now refl l c.index.ensures in
    let eq1 = c.in_ok-push_at.ensures.ok c.index.result.now q in
    let still = still_there (seen g.T.Tap c.args.self.now) c.args.from c.args.to (pushed c.index.result.now c.args.t) c.push_at.new.queues.items apart lc eq1 in
    let eq2 = c.pop_at.ensures.left _ still in
    relay_same (seen g.T.Tap c.args.self.now) c.args.from c.args.to c.args.t c.push_at.new.queues.items _ _ _ _ _ eq1 eq2 c.in_default.ensures.ok
