use Rattle.std.proofs.Math.Logic.{∥∥₁_elim}
use Rattle.std.specs.Prelude.{map}
use Rattle.graph.specs.declared.graphs.Block.{Block}
use Rattle.graph.specs.Meaning.{meaning}
use Rattle.graph.specs.Wiring.{block, no_block}
use Rattle.machines.proofs.MadeAnew.{in-range-prop, maps-agree, ok-both}
use Rattle.machines.proofs.anew.BlocksAnewMaker.make.Goals as goal

pub assemble-requires-clause-in_range : goal.assemble-requires-clause-in_range
assemble-requires-clause-in_range c = λ b l.
    let maker = c.args.self.now in
    ∥∥₁_elim maker.in_range (in-range-prop maker.storages.now (block maker.graph.now b).kind) (λ all. all b l)

pub returns-clause-same_kinds : goal.returns-clause-same_kinds
returns-clause-same_kinds c =
    let maker = c.args.self.now in
    ok-both c.assemble.result _ _ _ c.assemble.ensures.number c.assemble.ensures.kinds (λ blocks number kinds.
    maps-agree _ (λ (x : Block). meaning maker.storages.now x.kind) no_block blocks.items maker.graph.now.blocks number kinds)
