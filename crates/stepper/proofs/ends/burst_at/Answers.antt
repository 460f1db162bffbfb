use Rattle.std.proofs.Common.{rules, refl, false}
use Rattle.std.proofs.lemmas.Option.{slice_get_read}
use Rattle.std.proofs.lemmas.Result.{IfOk-weaker, IfErr-weaker}
use Rattle.plays.proofs.Rests.{burst_at, may_burst, same_closed}
use Rattle.stepper.proofs.ends.burst_at.Goals as goal

pub burst-went-requires : goal.burst-went-requires
burst-went-requires g c =
    let at = slice_get_read c.args.blocks.now.items _ c.args.block c.index_mut.result.now refl c.requires.within c.index_mut.ensures.value in
    may_burst g.B.BlockStep c.args.blocks.now.items _ c.index_mut.result.now at c.requires.may

pub returns-clause-poured : goal.returns-clause-poured
returns-clause-poured g c =
    let at = slice_get_read c.args.blocks.now.items _ c.args.block c.index_mut.result.now refl c.requires.within c.index_mut.ensures.value in
    let k = c.burst-went.ensures.same_ends in
    IfOk-weaker c.burst-went.result _ _ (λ went h. burst_at g.B.BlockStep c.args.blocks.now.items _ _ c.index_mut.result.now c.burst-went.new.self went _ _
    at c.burst-went.ensures.same_kind k.2 (search (rules, k)) (search (rules, k)) h) c.burst-went.ensures.poured

pub returns-clause-refused : goal.returns-clause-refused
returns-clause-refused g c =
    let at = slice_get_read c.args.blocks.now.items _ c.args.block c.index_mut.result.now refl c.requires.within c.index_mut.ensures.value in
    let k = c.burst-went.ensures.same_ends in
    IfErr-weaker c.burst-went.result _ _ (λ e h. burst_at g.B.BlockStep c.args.blocks.now.items _ _ c.index_mut.result.now c.burst-went.new.self false _ _
    at c.burst-went.ensures.same_kind k.2 (search (rules, k)) (search (rules, k)) h) c.burst-went.ensures.refused

pub returns-clause-same_ends : goal.returns-clause-same_ends
returns-clause-same_ends g c =
    let k = c.burst-went.ensures.same_ends in
    same_closed _ _ _ _ k.2 (search (rules, k)) (search (rules, k))
