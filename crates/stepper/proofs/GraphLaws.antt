-- The laws of plays, for the nets of graphs.
use Rattle.std.specs.Prelude.{List, length, drop, slice_range, Some}
use Rattle.std.proofs.Common.{arith, sym, ◌∙◌, ap, subst}
use Rattle.stream_tokens.specs.declared.Token.{Token}
use Rattle.block_core.specs.Move.{takes, puts}
use Rattle.graph.specs.Wiring.{channel}
use Rattle.graph.specs.WholeStreams.{whole_stream}
use Rattle.plays.specs.Net.{AtMost, stream_on, sent, got}
use Rattle.plays.proofs.Waiting.{sent_whole, got_whole, waits_queue}
use Rattle.plays.proofs.Sums.{sum_same}
use Rattle.plays.proofs.Always.{always-kept}
use Rattle.plays.proofs.Ends.{one-end, some-end, more-room}
use Rattle.plays.proofs.Finishing.{all_sent, no-stall}
use Rattle.plays.proofs.Count.{twice-each}
use Rattle.stepper.specs.NetOf.{net_of, rooms_of}
use Rattle.stepper.specs.Laws.{GraphsAreWired, AlwaysPartWay, QueuesArePart, OneStuckState, MoreRoomNeverHurts}
use Rattle.stepper.specs.Laws.{RoomSuffices, MoveCount, AllIsSent}
use Rattle.stepper.proofs.Wires.{wired, put_whole}

pub graphs-are-wired : GraphsAreWired
graphs-are-wired = wired

pub always-part-way : AlwaysPartWay
always-part-way storages g caps s w k r c l =
    let net = net_of storages g in
    let wire = wired storages g w k in
    let kept = always-kept net (rooms_of caps) s wire r in
    record {
      put = (puts (net.sent_at c) (drop (s (net.sender c)) (net.moves (net.sender c))), sent_whole net s c ∙ put_whole storages g c w k l);
      taken = (takes (net.received_at c) (drop (s (net.receiver c)) (net.moves (net.receiver c))), got_whole net s c wire l ∙ put_whole storages g c w k l);
      order = kept.order c l;
      room = kept.room c l;
    }

pub queues-are-part : QueuesArePart
queues-are-part storages g s c q w k l h =
    let net = net_of storages g in
    waits_queue net s c q h
    ∙ ap (λ (z : List Token). slice_range z (length (got net s c)) (length (sent net s c))) (put_whole storages g c w k l)

pub one-end-of-graphs : OneStuckState
one-end-of-graphs storages g caps w k =
    let net = net_of storages g in
    let wire = wired storages g w k in
    let e = some-end net (rooms_of caps) wire in
    (e.0, e.1, e.2, λ t r stuck. one-end net (rooms_of caps) t e.0 wire r stuck e.1 e.2)

pub more-room-never-hurts : MoreRoomNeverHurts
more-room-never-hurts storages g low high s t w k more =
    more-room (net_of storages g) (rooms_of low) (rooms_of high) s t (wired storages g w k) more

pub room-suffices : RoomSuffices
room-suffices storages g caps s w k room =
    no-stall (net_of storages g) (rooms_of caps) w.forwards.0 s (wired storages g w k) w.forwards.1
    (λ c l. subst (λ n. AtMost (Some n) (rooms_of caps c)) (sym (ap (λ (z : List Token). length z) (put_whole storages g c w k l))) (room c l))

pub move-count : MoveCount
move-count storages g s w k done =
    let net = net_of storages g in
    let same = sum_same (length g.channels) (λ c. length (whole_stream storages g c)) (λ c. length (stream_on net c))
    (λ c l. ap (λ (z : List Token). length z) (put_whole storages g c w k l)) in
    let twice = twice-each net s (wired storages g w k) done in
    omega (arith, twice, same)

pub all-is-sent : AllIsSent
all-is-sent storages g s w k done c l =
    all_sent (net_of storages g) s c (done (channel g c).from_block (w.came c l).0) ∙ put_whole storages g c w k l
