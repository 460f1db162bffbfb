use Rattle.std.proofs.Common.{◌≡◌, ◌∙◌, ◌+◌, ◌<◌, ℕ, List, refl, sym, ap, subst, length, set, rules}
use Rattle.std.specs.Prelude.{Some, slice_get, slice_index}
use Rattle.std.proofs.lemmas.Option.{slice_get_read, slice_get_within}
use Rattle.plays.proofs.Lists.{same_some}
use Rattle.block_threads.proofs.Taking.{TakenTo, waits_there, took_more}
use Rattle.block_threads.proofs.wires.ends_of.Goals as goal

pub index_mut-requires : goal.index_mut-requires
index_mut-requires g c =
    let i = c.loop-channel.channel-index in
    let same = c.loop-channel.invariant.same in
    let within : i < length c.args.channels.now = subst (λ l. i < length l) same c.loop-channel-test.true in
    let w = waits_there c.args.ends.now.items c.args.channels.now i c.loop-channel.ends.items c.loop-channel.taken.items c.loop-channel.invariant.taken within c.requires.distinct c.requires.waiting in
    let less : slice_index c.as_slice-channel-items.result.now i < length c.loop-channel.ends.items =
    subst (λ l. slice_index l i < length c.loop-channel.ends.items) (sym same) (slice_get_within _ _ _ w.1) in
    search rules

pub unreachable-requires : goal.unreachable-requires
unreachable-requires g c =
    let i = c.loop-channel.channel-index in
    let same = c.loop-channel.invariant.same in
    let within : i < length c.args.channels.now = subst (λ l. i < length l) same c.loop-channel-test.true in
    let w = waits_there c.args.ends.now.items c.args.channels.now i c.loop-channel.ends.items c.loop-channel.taken.items c.loop-channel.invariant.taken within c.requires.distinct c.requires.waiting in
    let less = subst (λ l. slice_index l i < length c.loop-channel.ends.items) (sym same) (slice_get_within _ _ _ w.1) in
    let there : slice_get c.loop-channel.ends.items (slice_index c.args.channels.now i) ≡ Some c.index_mut.result.now =
    ap (λ l. slice_get c.loop-channel.ends.items (slice_index l i)) (sym same) ∙ slice_get_read _ _ _ c.index_mut.result.now refl less c.index_mut.ensures.value in
    let full : c.index_mut.result.now ≡ Some w.0 = same_some _ _ (sym there ∙ w.1) in
    c.in_default.not-Some w.0 (c.take.ensures.value ∙ full)

pub loop-channel-preserved : goal.loop-channel-preserved
loop-channel-preserved g c =
    let i = c.loop-channel.channel-index in
    let same = c.loop-channel.invariant.same in
    let within : i < length c.args.channels.now = subst (λ l. i < length l) same c.loop-channel-test.true in
    let w = waits_there c.args.ends.now.items c.args.channels.now i c.loop-channel.ends.items c.loop-channel.taken.items c.loop-channel.invariant.taken within c.requires.distinct c.requires.waiting in
    let less = subst (λ l. slice_index l i < length c.loop-channel.ends.items) (sym same) (slice_get_within _ _ _ w.1) in
    let there : slice_get c.loop-channel.ends.items (slice_index c.args.channels.now i) ≡ Some (Some c.in-Some.end) =
    ap (λ l. slice_get c.loop-channel.ends.items (slice_index l i)) (sym same) ∙ slice_get_read _ _ _ c.index_mut.result.now refl less c.index_mut.ensures.value
    ∙ ap (λ z. Some z) (sym c.take.ensures.value ∙ c.in-Some.is) in
    let r = took_more c.args.ends.now.items c.args.channels.now i c.loop-channel.ends.items c.loop-channel.taken.items c.loop-channel.invariant.taken within c.requires.distinct
    c.in-Some.end c.take.new.self there in
    record {
      same = same;
      taken = subst (λ (q : List ℕ × List g.row.T.Denot). TakenTo c.args.ends.now.items c.args.channels.now (i + 1) (set c.loop-channel.ends.items (slice_index q.0 i) c.take.new.self) q.1)
          (λ j. (sym same j, sym c.in_ok-push.ensures.items j)) r;
    }
