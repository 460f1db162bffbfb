use Rattle.std.proofs.Common.{◌≡◌, length, sym, subst, arith}
use Rattle.graph.specs.declared.graphs.Block.{Block}
use Rattle.graph.specs.Meaning.{meaning}
use Rattle.graph.specs.Wiring.{block}
use Rattle.any_block.specs.contracts.blocks.AnyBlockBlockStep.TheImpl.{ghosts}
use Rattle.any_block.proofs.Made.{IsNew, block-is, made-more, made-all}
use Rattle.any_block.proofs.assembly.assemble.Goals as goal

pub loop-block-preserved : goal.loop-block-preserved
loop-block-preserved c =
    let P : Block → Type 0 = λ x. IsNew ghosts.kind ghosts.stands (meaning c.args.storages.now x.kind) c.in_ok-new_block.field-0 in
    let new : P c.block-item.result = record { same_kind = c.in_ok-new_block.ensures.same_kind; starts = c.in_ok-new_block.ensures.starts } in
    let is : c.block-item.result ≡ block c.args.g.now c.loop-block.block-index =
    block-is c.args.g.now _ _ _ c.as_slice-block-items.ensures c.loop-block-test.true c.block-item.is in
    record {
      made = made-more ghosts.kind ghosts.stands c.args.storages.now c.args.g.now c.loop-block.block-index _ _ _ c.loop-block.invariant.made
          (subst P is new) c.in_ok-push.ensures.items;
    }

pub returns-clause-starts : goal.returns-clause-starts
returns-clause-starts c =
    let e : c.loop-block.block-index ≡ length c.as_slice-block-items.result.now = omega (arith, c.loop-block-test.false, c.loop-block.auto.block-index-end) in
    let all : c.loop-block.block-index ≡ length c.args.g.now.blocks = rw (sym c.as_slice-block-items.ensures) e in
    made-all ghosts.kind ghosts.stands c.args.storages.now c.args.g.now c.loop-block.block-index _ all c.loop-block.invariant.made

pub returns-clause-any_inputs : goal.returns-clause-any_inputs
returns-clause-any_inputs c = λ b x at. (c.loop-block.invariant.made.each b x at).starts
