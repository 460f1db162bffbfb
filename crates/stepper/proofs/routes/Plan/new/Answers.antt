use Rattle.std.proofs.Common.{◌≡◌, ◌∙◌, sym, ap, subst, arith, get_or, length, List}
use Rattle.std.proofs.lemmas.List.{get_or_default}
use Rattle.graph.specs.declared.graphs.Block.{Block}
use Rattle.graph.specs.Wiring.{block, no_block}
use Rattle.stepper.specs.Routes.{table_of}
use Rattle.stepper.specs.AtState.{PortsListed}
use Rattle.stepper.proofs.Laying.{lists_more}
use Rattle.stepper.proofs.routes.Plan.new.Goals as goal

pub loop-block-preserved : goal.loop-block-preserved
loop-block-preserved c =
    let e : c.block-item.result ≡ block c.args.g.now c.loop-block.block-index =
    c.block-item.is
    ∙ get_or_default c.as_slice-block-items.result.now c.loop-block.block-index c.block-item.result no_block c.loop-block-test.true
    ∙ ap (λ (z : List Block). get_or z c.loop-block.block-index no_block) c.as_slice-block-items.ensures in (
      lists_more (table_of c.loop-block.ins) (table_of c.push.new.self) c.loop-block.block-index (λ b. (block c.args.g.now b).ins) c.block-item.result.ins
          c.loop-block.invariant.0 (ap (λ (z : Block). z.ins) e) c.in_ok-push.ensures.first c.in_ok-push.ensures.channels,
      lists_more (table_of c.loop-block.outs) (table_of c.push-in-loop-block.new.self) c.loop-block.block-index (λ b. (block c.args.g.now b).outs) c.block-item.result.outs
          c.loop-block.invariant.1 (ap (λ (z : Block). z.outs) e) c.in_ok-push-2.ensures.first c.in_ok-push-2.ensures.channels,
    )

pub returns : goal.returns
returns c =
    let n : length c.args.g.now.blocks ≡ c.loop-block.block-index =
    let e = ap (λ (z : List Block). length z) c.as_slice-block-items.ensures in
    omega (arith, e, c.loop-block.auto.block-index-end, c.loop-block-test.false) in
    record {
      few = c.requires.few_blocks;
      ins = subst (λ k. PortsListed (table_of c.loop-block.ins) k (λ b. (block c.args.g.now b).ins)) (sym n) c.loop-block.invariant.0;
      outs = subst (λ k. PortsListed (table_of c.loop-block.outs) k (λ b. (block c.args.g.now b).outs)) (sym n) c.loop-block.invariant.1;
      order = c.in_ok-order.ensures;
    }
