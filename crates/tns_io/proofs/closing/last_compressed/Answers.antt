use Rattle.std.proofs.Common.{◌≡◌, suc, ◌-◌, Some, ap, sym, ◌∙◌, arith}
use Rattle.sam_model.specs.Tensors.{compressed_until}
use Rattle.levels.proofs.Prefixes.{until-compressed, until-dense}
use Rattle.tns_io.proofs.closing.last_compressed.Goals as goal

pub returns-in-Compressed : goal.returns-in-Compressed
returns-in-Compressed c =
    let formats = c.args.declared.now.formats in
    let above = c.loop-level.level - 1 in
    let next : c.loop-level.level ≡ suc above = omega (arith, c.loop-level-test.true) in
    next
    ∙ sym (until-compressed formats above (c.get.ensures ∙ ap Some c.in-Compressed.is))
    ∙ ap (λ k. compressed_until k formats) (sym next)
    ∙ c.loop-level.invariant.same

pub loop-level-preserved : goal.loop-level-preserved
loop-level-preserved c =
    let formats = c.args.declared.now.formats in
    let above = c.loop-level.level - 1 in
    let next : c.loop-level.level ≡ suc above = omega (arith, c.loop-level-test.true) in
    record {
      inside = let most = c.loop-level.invariant.inside in omega (arith, most);
      same =
          sym (until-dense formats above (c.get.ensures ∙ ap Some c.in_default.is))
          ∙ ap (λ k. compressed_until k formats) (sym next)
          ∙ c.loop-level.invariant.same;
    }
