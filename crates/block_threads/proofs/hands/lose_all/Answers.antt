use Rattle.std.proofs.Common.{◌≡◌, ◌<◌, ◌∙◌, arith, get_or, length}
use Rattle.std.specs.Prelude.{Some, slice_get}
use Rattle.std.proofs.lemmas.Option.{slice_get-get_or}
use Rattle.block_threads.proofs.Ends.{ended_more, channels_set, stream_of_end}
use Rattle.block_threads.proofs.Sending.{room_behind}
use Rattle.block_threads.proofs.hands.lose_all.Goals as goal

pub loop-tx-preserved : goal.loop-tx-preserved
loop-tx-preserved g c =
    let es = c.loop-tx.outs in
    let i = c.loop-tx.tx-index in
    let y = get_or es i c.tx-item.result in
    let within : i < length es = omega (arith, c.loop-tx-test.true, c.loop-tx.auto.outs) in
    let at : slice_get es i ≡ Some y = slice_get-get_or es i c.tx-item.result within in
    let kept = c.loop-tx.invariant in
    record {
      same = channels_set es i y c.lose.new.tx at c.lose.ensures.channel ∙ kept.same;
      ended = ended_more g.W.Streams.streams i es c.lose.new.tx within c.lose.ensures.ended kept.ended;
      room = room_behind es i c.lose.new.tx kept.room;
    }

pub returns-clause-ended : goal.returns-clause-ended
returns-clause-ended g c = λ k d less.
    c.loop-tx.invariant.ended k (get_or c.loop-tx.outs k d) (omega (arith, less, c.loop-tx-test.false, c.loop-tx.auto.outs)) (slice_get-get_or c.loop-tx.outs k d less)

pub lose-requires-clause-whole : goal.lose-requires-clause-whole
lose-requires-clause-whole g c =
    let within : c.loop-tx.tx-index < length c.loop-tx.outs = omega (arith, c.loop-tx-test.true, c.loop-tx.auto.outs) in
    stream_of_end g.W.Streams.streams c.loop-tx.outs c.args.outs.now c.loop-tx.tx-index (get_or c.loop-tx.outs c.loop-tx.tx-index c.tx-item.result)
    c.loop-tx.invariant.same c.requires.whole (slice_get-get_or c.loop-tx.outs c.loop-tx.tx-index c.tx-item.result within)

pub lose-requires-clause-room : goal.lose-requires-clause-room
lose-requires-clause-room g c =
    let within : c.loop-tx.tx-index < length c.loop-tx.outs = omega (arith, c.loop-tx-test.true, c.loop-tx.auto.outs) in
    c.loop-tx.invariant.room c.loop-tx.tx-index (get_or c.loop-tx.outs c.loop-tx.tx-index c.tx-item.result) (omega arith)
    (slice_get-get_or c.loop-tx.outs c.loop-tx.tx-index c.tx-item.result within)
