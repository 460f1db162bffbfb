use Rattle.std.proofs.Common.{◌<◌, sym, ap, subst, length, arith, false}
use Rattle.plays.specs.Told.{HasLists}
use Rattle.plays.specs.Rest.{ends_at, BurstAt}
use Rattle.stepper.specs.Bursting.{OnwardsBy}
use Rattle.std.proofs.lemmas.Result.{IfOk-weaker, IfErr-weaker}
use Rattle.stepper.proofs.Bursting.{row_ins, row_outs, may_rows, onwards_rows, sits_on, either_way}
use Rattle.stepper.specs.Routes.{held_of}
use Rattle.stepper.proofs.machine.Machine.burst.Goals as goal

pub row-ins-requires : goal.row-ins-requires
row-ins-requires g c =
    let lb : c.args.block < length c.self.inside.blocks.items = let e = ap (λ z. length z.blocks) c.self.view_is in omega (arith, e, c.requires.within) in
    row_ins g.B.BlockStep (held_of c.self.inside.blocks.items c.self.inside.queues.items c.self.inside.moves c.self.inside.plan) c.args.block lb c.self.invariant

pub row-outs-requires : goal.row-outs-requires
row-outs-requires g c =
    let lb : c.args.block < length c.self.inside.blocks.items = let e = ap (λ z. length z.blocks) c.self.view_is in omega (arith, e, c.requires.within) in
    row_outs g.B.BlockStep (held_of c.self.inside.blocks.items c.self.inside.queues.items c.self.inside.moves c.self.inside.plan) c.args.block lb c.self.invariant

pub burst_at-requires-clause-may : goal.burst_at-requires-clause-may
burst_at-requires-clause-may g c =
    let lb : c.args.block < length c.self.inside.blocks.items = let e = ap (λ z. length z.blocks) c.self.view_is in omega (arith, e, c.requires.within) in
    let lists = subst (λ m. HasLists (length m.queues) (g.T.Tap.told c.args.tap.now)) (sym c.self.view_is) c.requires.lists in
    may_rows g.B.BlockStep (held_of c.self.inside.blocks.items c.self.inside.queues.items c.self.inside.moves c.self.inside.plan) (g.T.Tap.told c.args.tap.now) c.args.block _ _ c.row-ins.ensures c.row-outs.ensures lb lists c.self.invariant

pub invariant_of-self : goal.invariant_of-self
invariant_of-self g c =
    let lb : c.args.block < length c.self.inside.blocks.items = let e = ap (λ z. length z.blocks) c.self.view_is in omega (arith, e, c.requires.within) in
    let lists = subst (λ m. HasLists (length m.queues) (g.T.Tap.told c.args.tap.now)) (sym c.self.view_is) c.requires.lists in
    let w = either_way (λ went. BurstAt g.B.BlockStep c.self.inside.blocks.items (ends_at c.self.inside.queues.items (g.T.Tap.told c.args.tap.now) c.self.inside.moves c.args.block c.row-ins.result.now c.row-outs.result.now) c.burst_at.new.blocks.items (ends_at c.burst_at.new.queues.items (g.T.Tap.told c.burst_at.new.tap) c.burst_at.new.moves c.args.block c.row-ins.result.now c.row-outs.result.now) went) c.burst_at.result c.burst_at.ensures.poured c.burst_at.ensures.refused in
    sits_on g.B.BlockStep (held_of c.self.inside.blocks.items c.self.inside.queues.items c.self.inside.moves c.self.inside.plan) (g.T.Tap.told c.args.tap.now) (held_of c.burst_at.new.blocks.items c.burst_at.new.queues.items c.burst_at.new.moves c.self.inside.plan) (g.T.Tap.told c.burst_at.new.tap) w.0
    (onwards_rows g.B.BlockStep g.met.B.BlockStep.stands_within (held_of c.self.inside.blocks.items c.self.inside.queues.items c.self.inside.moves c.self.inside.plan) (g.T.Tap.told c.args.tap.now) c.args.block _ _ c.row-ins.ensures c.row-outs.ensures w.0 c.burst_at.new.blocks.items c.burst_at.new.queues.items c.burst_at.new.moves (g.T.Tap.told c.burst_at.new.tap) lb lists w.1) c.self.invariant

pub returns-clause-onwards : goal.returns-clause-onwards
returns-clause-onwards g c =
    let lb : c.args.block < length c.self.inside.blocks.items = let e = ap (λ z. length z.blocks) c.self.view_is in omega (arith, e, c.requires.within) in
    let lists = subst (λ m. HasLists (length m.queues) (g.T.Tap.told c.args.tap.now)) (sym c.self.view_is) c.requires.lists in
    IfOk-weaker c.burst_at.result _ _ (λ went h. subst (λ z. OnwardsBy g.B.BlockStep z (g.T.Tap.told c.args.tap.now) (held_of c.burst_at.new.blocks.items c.burst_at.new.queues.items c.burst_at.new.moves c.self.inside.plan) (g.T.Tap.told c.burst_at.new.tap) went) c.self.view_is
    (onwards_rows g.B.BlockStep g.met.B.BlockStep.stands_within (held_of c.self.inside.blocks.items c.self.inside.queues.items c.self.inside.moves c.self.inside.plan) (g.T.Tap.told c.args.tap.now) c.args.block _ _ c.row-ins.ensures c.row-outs.ensures went c.burst_at.new.blocks.items c.burst_at.new.queues.items c.burst_at.new.moves (g.T.Tap.told c.burst_at.new.tap) lb lists h)) c.burst_at.ensures.poured

pub returns-clause-refused : goal.returns-clause-refused
returns-clause-refused g c =
    let lb : c.args.block < length c.self.inside.blocks.items = let e = ap (λ z. length z.blocks) c.self.view_is in omega (arith, e, c.requires.within) in
    let lists = subst (λ m. HasLists (length m.queues) (g.T.Tap.told c.args.tap.now)) (sym c.self.view_is) c.requires.lists in
    IfErr-weaker c.burst_at.result _ _ (λ e h. subst (λ z. OnwardsBy g.B.BlockStep z (g.T.Tap.told c.args.tap.now) (held_of c.burst_at.new.blocks.items c.burst_at.new.queues.items c.burst_at.new.moves c.self.inside.plan) (g.T.Tap.told c.burst_at.new.tap) false) c.self.view_is
    (onwards_rows g.B.BlockStep g.met.B.BlockStep.stands_within (held_of c.self.inside.blocks.items c.self.inside.queues.items c.self.inside.moves c.self.inside.plan) (g.T.Tap.told c.args.tap.now) c.args.block _ _ c.row-ins.ensures c.row-outs.ensures false c.burst_at.new.blocks.items c.burst_at.new.queues.items c.burst_at.new.moves (g.T.Tap.told c.burst_at.new.tap) lb lists h)) c.burst_at.ensures.refused
