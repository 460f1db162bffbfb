use Rattle.std.proofs.Common.{sym}
use Rattle.ruled_wires.specs.Ends.{wire_stream}
use Rattle.block_threads.proofs.Ends.{remain, unended}
use Rattle.block_threads.proofs.hands.lose.Goals as goal

pub put-requires-clause-next : goal.put-requires-clause-next
put-requires-clause-next g c =
    remain (wire_stream g.W.Streams.streams c.args.tx.now.channel) c.requires.whole c.args.tx.now.count
    (unended (wire_stream g.W.Streams.streams c.args.tx.now.channel) c.args.tx.now (sym c.if-not-ended.ensures)).1
