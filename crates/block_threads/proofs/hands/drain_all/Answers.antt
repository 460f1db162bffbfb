use Rattle.std.proofs.Common.{◌≡◌, ◌<◌, ◌∙◌, arith, get_or, length}
use Rattle.std.specs.Prelude.{Some, slice_get}
use Rattle.std.proofs.lemmas.Option.{slice_get-get_or}
use Rattle.block_threads.proofs.Ends.{ended_more, channels_set, lost_set}
use Rattle.block_threads.proofs.hands.drain_all.Goals as goal

pub loop-rx-preserved : goal.loop-rx-preserved
loop-rx-preserved g c =
    let es = c.loop-rx.ins in
    let i = c.loop-rx.rx-index in
    let y = get_or es i c.rx-item.result in
    let within : i < length es = omega (arith, c.loop-rx-test.true, c.loop-rx.auto.ins) in
    let at : slice_get es i ≡ Some y = slice_get-get_or es i c.rx-item.result within in
    let kept = c.loop-rx.invariant in
    record {
      same = channels_set es i y c.drain.new.rx at c.drain.ensures.channel ∙ kept.same;
      ended = ended_more g.W.Streams.streams i es c.drain.new.rx within c.drain.ensures.ended kept.ended;
      lost = λ has. lost_set es i y c.drain.new.rx at c.drain.ensures.lost (kept.lost has);
    }

pub returns-clause-ended : goal.returns-clause-ended
returns-clause-ended g c = λ k d less.
    c.loop-rx.invariant.ended k (get_or c.loop-rx.ins k d) (omega (arith, less, c.loop-rx-test.false, c.loop-rx.auto.ins)) (slice_get-get_or c.loop-rx.ins k d less)
