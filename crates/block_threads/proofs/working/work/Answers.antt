use Rattle.std.proofs.Common.{◌+◌, ap, ◌∙◌, inr, length, arith}
use Rattle.block_core.specs.Move.{Taking, Putting}
use Rattle.ruled_wires.specs.Ends.{after_message, keeping}
use Rattle.block_threads.specs.Ports.{channels_of, streams_of}
use Rattle.block_threads.proofs.Ends.{channels_set, after_channel, lost_here}
use Rattle.block_threads.proofs.Sending.{onwards_channels, moved_onwards}
use Rattle.block_threads.proofs.MovesMade.{own_move, put_at, take_at, token_is, all_made, outs_whole, put_within, put_next, put_moved, take_within, take_unended, take_moved, ends_stands, ins_through, outs_through}
use Rattle.block_threads.proofs.working.work.Goals as goal

pub returns-in-Finished-clause-finished : goal.returns-in-Finished-clause-finished
returns-in-Finished-clause-finished g c =
    let w = c.requires.wired in
    let S = streams_of g.W.Streams.streams c.args.ins.items in
    let fits = g.met.B.BlockStep.stands_fits c.args.block S 0 w.stands in
    let n = c.loop.invariant.moved.0 in
    let h = c.loop.invariant.moved.1 in
    let all = all_made g.B.BlockStep g.W.Streams.streams c.args.block c.args.ins.items c.args.outs.items w fits n c.loop.block c.loop.ins.items c.loop.outs.items h (g.met.B.BlockStep.stands_within c.loop.block S n h.stands) (c.in-Finished.ensures S n h.stands) in
    λ _. ends_stands g.B.BlockStep g.W.Streams.streams c.args.block c.args.ins.items c.args.outs.items w fits n c.loop.block c.loop.ins.items c.loop.outs.items h all

pub returns-in-Finished-clause-through : goal.returns-in-Finished-clause-through
returns-in-Finished-clause-through g c =
    let w = c.requires.wired in
    let S = streams_of g.W.Streams.streams c.args.ins.items in
    let fits = g.met.B.BlockStep.stands_fits c.args.block S 0 w.stands in
    let n = c.loop.invariant.moved.0 in
    let h = c.loop.invariant.moved.1 in
    let k = moved_onwards g.B.BlockStep g.W.Streams.streams c.args.block c.args.ins.items c.args.outs.items n c.loop.block c.loop.ins.items c.loop.outs.items c.send_all.new.outs.items c.send_all.ensures.onwards h in
    let all = all_made g.B.BlockStep g.W.Streams.streams c.args.block c.args.ins.items c.args.outs.items w fits n c.loop.block c.loop.ins.items c.loop.outs.items h (g.met.B.BlockStep.stands_within c.loop.block S n h.stands) (c.in-Finished.ensures S n h.stands) in
    λ _. (ins_through g.B.BlockStep g.W.Streams.streams c.args.block c.args.ins.items c.args.outs.items w fits n c.loop.block c.loop.ins.items c.loop.outs.items h all, outs_through g.B.BlockStep g.W.Streams.streams c.args.block c.args.ins.items c.args.outs.items w fits n c.loop.block c.loop.ins.items c.send_all.new.outs.items k all)

pub returns-in-Finished-clause-same_outs : goal.returns-in-Finished-clause-same_outs
returns-in-Finished-clause-same_outs g c =
    onwards_channels c.loop.outs.items c.send_all.new.outs.items c.send_all.ensures.onwards ∙ c.loop.invariant.moved.1.same_outs

pub put_to-requires-clause-within : goal.put_to-requires-clause-within
put_to-requires-clause-within g c =
    let w = c.requires.wired in
    let S = streams_of g.W.Streams.streams c.args.ins.items in
    let fits = g.met.B.BlockStep.stands_fits c.args.block S 0 w.stands in
    let n = c.loop.invariant.moved.0 in
    let h = c.loop.invariant.moved.1 in
    let next = put_at g.B.BlockStep g.W.Streams.streams c.args.block c.args.ins.items c.args.outs.items w fits n c.loop.block c.loop.ins.items c.loop.outs.items h c.in-Put.port c.in-Put.t (c.in-Put.ensures S n h.stands) in
    put_within g.B.BlockStep g.W.Streams.streams c.args.block c.args.ins.items c.args.outs.items w fits n c.loop.block c.loop.ins.items c.loop.outs.items h c.in-Put.port c.in-Put.t next

pub put_to-requires-clause-next : goal.put_to-requires-clause-next
put_to-requires-clause-next g c =
    let w = c.requires.wired in
    let S = streams_of g.W.Streams.streams c.args.ins.items in
    let fits = g.met.B.BlockStep.stands_fits c.args.block S 0 w.stands in
    let n = c.loop.invariant.moved.0 in
    let h = c.loop.invariant.moved.1 in
    let next = put_at g.B.BlockStep g.W.Streams.streams c.args.block c.args.ins.items c.args.outs.items w fits n c.loop.block c.loop.ins.items c.loop.outs.items h c.in-Put.port c.in-Put.t (c.in-Put.ensures S n h.stands) in
    put_next g.B.BlockStep g.W.Streams.streams c.args.block c.args.ins.items c.args.outs.items w fits n c.loop.block c.loop.ins.items c.loop.outs.items h c.in-Put.port c.in-Put.t next

pub did_put-requires : goal.did_put-requires
did_put-requires g c =
    let w = c.requires.wired in
    let S = streams_of g.W.Streams.streams c.args.ins.items in
    let fits = g.met.B.BlockStep.stands_fits c.args.block S 0 w.stands in
    let n = c.loop.invariant.moved.0 in
    let h = c.loop.invariant.moved.1 in
    let next = put_at g.B.BlockStep g.W.Streams.streams c.args.block c.args.ins.items c.args.outs.items w fits n c.loop.block c.loop.ins.items c.loop.outs.items h c.in-Put.port c.in-Put.t (c.in-Put.ensures S n h.stands) in
    ∣ (S, n, c.in-Put.port, c.in-Put.t, h.stands, own_move g.B.BlockStep g.W.Streams.streams c.args.block c.args.ins.items c.args.outs.items w fits n c.loop.block c.loop.ins.items c.loop.outs.items h (Putting c.in-Put.port c.in-Put.t) next) ∣₁

pub loop-preserved-in-Put : goal.loop-preserved-in-Put
loop-preserved-in-Put g c =
    let w = c.requires.wired in
    let S = streams_of g.W.Streams.streams c.args.ins.items in
    let fits = g.met.B.BlockStep.stands_fits c.args.block S 0 w.stands in
    let n = c.loop.invariant.moved.0 in
    let h = c.loop.invariant.moved.1 in
    let next = put_at g.B.BlockStep g.W.Streams.streams c.args.block c.args.ins.items c.args.outs.items w fits n c.loop.block c.loop.ins.items c.loop.outs.items h c.in-Put.port c.in-Put.t (c.in-Put.ensures S n h.stands) in
    let did = c.did_put.ensures in
    let went = c.put_to.ensures.put in
    let moved = put_moved g.B.BlockStep g.W.Streams.streams c.args.block c.args.ins.items c.args.outs.items w fits n c.loop.block c.loop.ins.items c.loop.outs.items h c.in-Put.port c.in-Put.t next went.0 c.did_put.new.self c.put_to.new.outs.items went.1 went.2 did.same_kind did.same_refusal did.moved in
    record { can_next = tt; is_finite = tt; moved = (n + 1, moved); room = c.put_to.ensures.room }

pub send_before_wait-requires-clause-within : goal.send_before_wait-requires-clause-within
send_before_wait-requires-clause-within g c =
    let w = c.requires.wired in
    let S = streams_of g.W.Streams.streams c.args.ins.items in
    let fits = g.met.B.BlockStep.stands_fits c.args.block S 0 w.stands in
    let n = c.loop.invariant.moved.0 in
    let h = c.loop.invariant.moved.1 in
    let next = take_at g.B.BlockStep g.W.Streams.streams c.args.block c.args.ins.items c.args.outs.items w fits n c.loop.block c.loop.ins.items c.loop.outs.items h c.in-Take.port (c.in-Take.ensures S n h.stands) in
    let within = take_within g.B.BlockStep g.W.Streams.streams c.args.block c.args.ins.items c.args.outs.items w fits n c.loop.block c.loop.ins.items c.loop.outs.items h c.in-Take.port next.0 next.1 in
    let same = ap length c.as_slice.ensures.value in
    omega (arith, within, same)

pub take_from-requires-clause-within : goal.take_from-requires-clause-within
take_from-requires-clause-within g c =
    let w = c.requires.wired in
    let S = streams_of g.W.Streams.streams c.args.ins.items in
    let fits = g.met.B.BlockStep.stands_fits c.args.block S 0 w.stands in
    let n = c.loop.invariant.moved.0 in
    let h = c.loop.invariant.moved.1 in
    let next = take_at g.B.BlockStep g.W.Streams.streams c.args.block c.args.ins.items c.args.outs.items w fits n c.loop.block c.loop.ins.items c.loop.outs.items h c.in-Take.port (c.in-Take.ensures S n h.stands) in
    take_within g.B.BlockStep g.W.Streams.streams c.args.block c.args.ins.items c.args.outs.items w fits n c.loop.block c.loop.ins.items c.loop.outs.items h c.in-Take.port next.0 next.1

pub take_from-requires-clause-unended : goal.take_from-requires-clause-unended
take_from-requires-clause-unended g c =
    let w = c.requires.wired in
    let S = streams_of g.W.Streams.streams c.args.ins.items in
    let fits = g.met.B.BlockStep.stands_fits c.args.block S 0 w.stands in
    let n = c.loop.invariant.moved.0 in
    let h = c.loop.invariant.moved.1 in
    let next = take_at g.B.BlockStep g.W.Streams.streams c.args.block c.args.ins.items c.args.outs.items w fits n c.loop.block c.loop.ins.items c.loop.outs.items h c.in-Take.port (c.in-Take.ensures S n h.stands) in
    take_unended g.B.BlockStep g.W.Streams.streams c.args.block c.args.ins.items c.args.outs.items w fits n c.loop.block c.loop.ins.items c.loop.outs.items h c.in-Take.port next.0 next.1

pub give_up-requires-clause-whole : goal.give_up-requires-clause-whole
give_up-requires-clause-whole g c =
    let w = c.requires.wired in
    let S = streams_of g.W.Streams.streams c.args.ins.items in
    let fits = g.met.B.BlockStep.stands_fits c.args.block S 0 w.stands in
    let n = c.loop.invariant.moved.0 in
    let on = c.send_before_wait.ensures.onwards in
    let h = moved_onwards g.B.BlockStep g.W.Streams.streams c.args.block c.args.ins.items c.args.outs.items n c.loop.block c.loop.ins.items c.loop.outs.items c.send_before_wait.new.outs.items on c.loop.invariant.moved.1 in
    outs_whole g.B.BlockStep g.W.Streams.streams c.args.block c.args.ins.items c.args.outs.items w fits n c.loop.block c.loop.ins.items c.send_before_wait.new.outs.items h

pub give_up-requires-in_default-take-clause-whole : goal.give_up-requires-in_default-take-clause-whole
give_up-requires-in_default-take-clause-whole g c =
    let w = c.requires.wired in
    let S = streams_of g.W.Streams.streams c.args.ins.items in
    let fits = g.met.B.BlockStep.stands_fits c.args.block S 0 w.stands in
    let n = c.loop.invariant.moved.0 in
    let on = c.send_before_wait.ensures.onwards in
    let h = moved_onwards g.B.BlockStep g.W.Streams.streams c.args.block c.args.ins.items c.args.outs.items n c.loop.block c.loop.ins.items c.loop.outs.items c.send_before_wait.new.outs.items on c.loop.invariant.moved.1 in
    outs_whole g.B.BlockStep g.W.Streams.streams c.args.block c.args.ins.items c.args.outs.items w fits n c.loop.block c.loop.ins.items c.send_before_wait.new.outs.items h

pub returns-in_default-clause-same_ins : goal.returns-in_default-clause-same_ins
returns-in_default-clause-same_ins g c =
    let w = c.requires.wired in
    let S = streams_of g.W.Streams.streams c.args.ins.items in
    let fits = g.met.B.BlockStep.stands_fits c.args.block S 0 w.stands in
    let n = c.loop.invariant.moved.0 in
    let h = c.loop.invariant.moved.1 in
    c.give_up.ensures.same_ins ∙ ap channels_of c.take_from.ensures.4
    ∙ channels_set c.loop.ins.items c.in-Take.port c.take_from.ensures.0 (keeping c.take_from.ensures.3 (after_message c.take_from.ensures.0 c.take_from.result))
    c.take_from.ensures.1 (after_channel c.take_from.ensures.3 c.take_from.ensures.0 c.take_from.result) ∙ h.same_ins

pub returns-in_default-clause-same_outs : goal.returns-in_default-clause-same_outs
returns-in_default-clause-same_outs g c =
    c.give_up.ensures.same_outs ∙ onwards_channels c.loop.outs.items c.send_before_wait.new.outs.items c.send_before_wait.ensures.onwards
    ∙ c.loop.invariant.moved.1.same_outs

pub returns-in_default-clause-cause : goal.returns-in_default-clause-cause
returns-in_default-clause-cause g c =
    let came = c.take_from.ensures in
    λ _. inr (c.give_up.ensures.cause (lost_here c.loop.ins.items c.take_from.new.ins.items c.in-Take.port came.3 came.0 c.take_from.result came.1 c.in_default.is came.4))

pub take-requires : goal.take-requires
take-requires g c =
    let w = c.requires.wired in
    let S = streams_of g.W.Streams.streams c.args.ins.items in
    let fits = g.met.B.BlockStep.stands_fits c.args.block S 0 w.stands in
    let n = c.loop.invariant.moved.0 in
    let h = c.loop.invariant.moved.1 in
    let next = take_at g.B.BlockStep g.W.Streams.streams c.args.block c.args.ins.items c.args.outs.items w fits n c.loop.block c.loop.ins.items c.loop.outs.items h c.in-Take.port (c.in-Take.ensures S n h.stands) in
    let given = c.in-Token.ensures in
    let taken = token_is g.B.BlockStep g.W.Streams.streams c.args.block c.args.ins.items c.args.outs.items w fits n c.loop.block c.loop.ins.items c.loop.outs.items h c.in-Take.port next.0 next.1 given.0 c.in-Token.t given.1 given.2 in
    ∣ (S, n, h.stands, own_move g.B.BlockStep g.W.Streams.streams c.args.block c.args.ins.items c.args.outs.items w fits n c.loop.block c.loop.ins.items c.loop.outs.items h (Taking c.in-Take.port c.in-Token.t) taken) ∣₁

pub loop-preserved : goal.loop-preserved
loop-preserved g c =
    let w = c.requires.wired in
    let S = streams_of g.W.Streams.streams c.args.ins.items in
    let fits = g.met.B.BlockStep.stands_fits c.args.block S 0 w.stands in
    let n = c.loop.invariant.moved.0 in
    let on = c.send_before_wait.ensures.onwards in
    let h = moved_onwards g.B.BlockStep g.W.Streams.streams c.args.block c.args.ins.items c.args.outs.items n c.loop.block c.loop.ins.items c.loop.outs.items c.send_before_wait.new.outs.items on c.loop.invariant.moved.1 in
    let next = take_at g.B.BlockStep g.W.Streams.streams c.args.block c.args.ins.items c.args.outs.items w fits n c.loop.block c.loop.ins.items c.send_before_wait.new.outs.items h c.in-Take.port (c.in-Take.ensures S n h.stands) in
    let given = c.in-Token.ensures in
    let taken = token_is g.B.BlockStep g.W.Streams.streams c.args.block c.args.ins.items c.args.outs.items w fits n c.loop.block c.loop.ins.items c.send_before_wait.new.outs.items h c.in-Take.port next.0 next.1 given.0 c.in-Token.t given.1 given.2 in
    let took = c.take.ensures in
    let moved = take_moved g.B.BlockStep g.W.Streams.streams c.args.block c.args.ins.items c.args.outs.items w fits n c.loop.block c.loop.ins.items c.send_before_wait.new.outs.items h c.in-Take.port c.in-Token.t taken given.0 given.3 c.take.new.self c.take_from.new.ins.items given.1 given.4 took.same_kind took.same_refusal c.in-Ok.ensures.moved in
    record { can_next = tt; is_finite = tt; moved = (n + 1, moved); room = c.send_before_wait.ensures.room }

pub returns-in_default-take-clause-same_ins : goal.returns-in_default-take-clause-same_ins
returns-in_default-take-clause-same_ins g c =
    let w = c.requires.wired in
    let S = streams_of g.W.Streams.streams c.args.ins.items in
    let fits = g.met.B.BlockStep.stands_fits c.args.block S 0 w.stands in
    let n = c.loop.invariant.moved.0 in
    let h = c.loop.invariant.moved.1 in
    c.give_up-in_default-take.ensures.same_ins ∙ ap channels_of c.take_from.ensures.4
    ∙ channels_set c.loop.ins.items c.in-Take.port c.take_from.ensures.0 (keeping c.take_from.ensures.3 (after_message c.take_from.ensures.0 c.take_from.result))
    c.take_from.ensures.1 (after_channel c.take_from.ensures.3 c.take_from.ensures.0 c.take_from.result) ∙ h.same_ins

pub returns-in_default-take-clause-same_outs : goal.returns-in_default-take-clause-same_outs
returns-in_default-take-clause-same_outs g c =
    c.give_up-in_default-take.ensures.same_outs ∙ onwards_channels c.loop.outs.items c.send_before_wait.new.outs.items c.send_before_wait.ensures.onwards
    ∙ c.loop.invariant.moved.1.same_outs
