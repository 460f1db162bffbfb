use Rattle.std.proofs.Common.{◌≡◌, ℕ, slice_get, Some, refl, sym, subst}
use Rattle.std.proofs.lemmas.Bool.{ltb-true}
use Rattle.std.proofs.lemmas.Option.{slice_get_read}
use Rattle.std.proofs.lemmas.Result.{IfOk-weaker}
use Rattle.any_block.specs.contracts.blocks.AnyBlockBlockStep.TheImpl.{ghosts}
use Rattle.graph.specs.Writers.{first_block, writes_values}
use Rattle.any_block.proofs.Writers.{values-ended}
use Rattle.any_block.proofs.gathering.value_array.Goals as goal

pub returns-in-Some : goal.returns-in-Some
returns-in-Some c =
    let i = c.value_writer.result in
    let read : slice_get c.args.blocks.now i ≡ Some c.in-Some.block.now =
    slice_get_read _ _ i _ refl (ltb-true i _ (sym c.in-Some.ensures.lookup.0)) c.in-Some.ensures.lookup.1 in
    let at : slice_get c.args.blocks.now (first_block writes_values c.args.g.now) ≡ Some c.in-Some.block.now =
    subst (λ (n : ℕ). slice_get c.args.blocks.now n ≡ Some c.in-Some.block.now) c.value_writer.ensures read in
    IfOk-weaker c.kept_values.result _ _ (λ vals e storages h.
    let z = values-ended ghosts.kind ghosts.stands storages c.args.g.now c.args.blocks.now h c.in-Some.block.now at in
    e _ z.same_kind z.through) c.kept_values.ensures
