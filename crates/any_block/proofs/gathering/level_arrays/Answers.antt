use Rattle.std.proofs.Common.{◌≡◌, ℕ, slice_get, Some, refl, sym, subst}
use Rattle.std.proofs.lemmas.Bool.{ltb-true}
use Rattle.std.proofs.lemmas.Option.{slice_get_read}
use Rattle.std.proofs.lemmas.Result.{IfOk-weaker}
use Rattle.any_block.specs.contracts.blocks.AnyBlockBlockStep.TheImpl.{ghosts}
use Rattle.graph.specs.Writers.{first_block, writes_level}
use Rattle.any_block.proofs.Writers.{level-ended}
use Rattle.any_block.proofs.gathering.level_arrays.Goals as goal

pub returns-in-Some-clause-segs : goal.returns-in-Some-clause-segs
returns-in-Some-clause-segs c =
    let i = c.level_writer.result in
    let read : slice_get c.args.blocks.now i ≡ Some c.in-Some.block.now =
    slice_get_read _ _ i _ refl (ltb-true i _ (sym c.in-Some.ensures.lookup.0)) c.in-Some.ensures.lookup.1 in
    let at : slice_get c.args.blocks.now (first_block (writes_level c.args.level) c.args.g.now) ≡ Some c.in-Some.block.now =
    subst (λ (n : ℕ). slice_get c.args.blocks.now n ≡ Some c.in-Some.block.now) c.level_writer.ensures read in
    IfOk-weaker c.kept_level.result _ _ (λ arrays e storages h.
    let z = level-ended ghosts.kind ghosts.stands storages c.args.g.now c.args.blocks.now h c.args.level c.in-Some.block.now at in
    e c.args.level _ z.same_kind z.through) c.kept_level.ensures.segs

pub returns-in-Some-clause-crds : goal.returns-in-Some-clause-crds
returns-in-Some-clause-crds c =
    let i = c.level_writer.result in
    let read : slice_get c.args.blocks.now i ≡ Some c.in-Some.block.now =
    slice_get_read _ _ i _ refl (ltb-true i _ (sym c.in-Some.ensures.lookup.0)) c.in-Some.ensures.lookup.1 in
    let at : slice_get c.args.blocks.now (first_block (writes_level c.args.level) c.args.g.now) ≡ Some c.in-Some.block.now =
    subst (λ (n : ℕ). slice_get c.args.blocks.now n ≡ Some c.in-Some.block.now) c.level_writer.ensures read in
    IfOk-weaker c.kept_level.result _ _ (λ arrays e storages h.
    let z = level-ended ghosts.kind ghosts.stands storages c.args.g.now c.args.blocks.now h c.args.level c.in-Some.block.now at in
    e c.args.level _ z.same_kind z.through) c.kept_level.ensures.crds
