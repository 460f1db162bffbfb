use Rattle.block_threads.proofs.Giving.{fresh_more}
use Rattle.block_threads.proofs.wires.Wires.new.Goals as goal

pub loop-channel-preserved : goal.loop-channel-preserved
loop-channel-preserved g c =
    let i = c.loop-channel.invariant in
    record {
      senders = fresh_more c.loop-channel.channel c.loop-channel.senders.items c.push.new.self.items c.in_ok-tx.tx i.senders c.in_ok-tx.ensures.fresh.0 c.in_ok-push.ensures.items;
      receivers = fresh_more c.loop-channel.channel c.loop-channel.receivers.items c.push-in-loop-channel.new.self.items c.in_ok-tx.rx i.receivers c.in_ok-tx.ensures.fresh.1 c.in_ok-push-2.ensures.items;
    }
