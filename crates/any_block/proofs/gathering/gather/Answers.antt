use Rattle.std.proofs.Common.{◌≡◌, ◌∙◌, arith}
use Rattle.block_core.specs.Written.{segs_of, crds_of}
use Rattle.graph.specs.Writers.{level_stream}
use Rattle.any_block.proofs.Writers.{level-more, all-listed}
use Rattle.any_block.proofs.gathering.gather.Goals as goal

pub loop-above-preserved : goal.loop-above-preserved
loop-above-preserved c = record {
  segs = λ storages h. level-more (λ d. segs_of d (level_stream storages c.args.g.now d)) c.loop-above.above _ _ _
      (c.loop-above.invariant.segs storages h) (c.in_ok-level_segs.ensures.segs storages h) c.in_ok-push.ensures.ok;
  crds = λ storages h. level-more (λ d. crds_of (level_stream storages c.args.g.now d)) c.loop-above.above _ _ _
      (c.loop-above.invariant.crds storages h) (c.in_ok-level_segs.ensures.crds storages h) c.in_ok-push-2.ensures.ok;
}

pub returns : goal.returns
returns c = record {
  written = λ storages h.
      let all : c.loop-above.above ≡ c.args.levels = omega (arith, c.loop-above-test.false, c.loop-above.auto.above-end) in
      all-listed storages c.args.g.now c.args.levels c.loop-above.above _ _ _ all
      (c.segs-2.view_is ∙ c.loop-above.invariant.segs storages h) (c.crds-2.view_is ∙ c.loop-above.invariant.crds storages h)
      (c.in_ok-value_array.ensures storages h);
}
