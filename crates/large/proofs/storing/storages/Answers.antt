use Rattle.std.proofs.Common.{◌∙◌, ◌++◌, ◌<◌, List, [], ◌∷◌, length, ap, sym, refl, arith}
use Rattle.std.proofs.lemmas.Option.{slice_get_read}
use Rattle.sam_model.specs.Tensors.{stored_as}
use Rattle.sam_model.specs.Children.{Ranked, ranked}
use Rattle.large.proofs.StoringLemmas.{stored-more}
use Rattle.large.proofs.storing.storages.Goals as goal

pub stored-requires : goal.stored-requires
stored-requires c =
    let k = c.loop-k.k in
    let within : k < length c.args.tensors.now = omega (arith, c.loop-k-test.true, c.requires.each) in
    c.requires.may k c.index-tensors-k.result c.index-entries-k.result
    (slice_get_read c.args.tensors.now (length c.args.tensors.now) k c.index-tensors-k.result refl within c.index-tensors-k.is)
    (slice_get_read c.args.entries.now (length c.args.entries.now) k c.index-entries-k.result refl c.loop-k-test.true c.index-entries-k.is)

pub loop-k-preserved : goal.loop-k-preserved
loop-k-preserved c =
    let k = c.loop-k.k in
    let ts = c.args.tensors.now in
    let es = c.args.entries.now in
    let t = c.index-tensors-k.result in
    let e = c.index-entries-k.result in
    let within : k < length ts = omega (arith, c.loop-k-test.true, c.requires.each) in
    c.in_ok-push.ensures.ok
    ∙ ap (λ (s : Ranked). c.loop-k.storages ++ s ∷ []) c.in_ok-stored.ensures
    ∙ ap (λ (l : List Ranked). l ++ ranked (stored_as t e) ∷ []) c.loop-k.invariant
    ∙ sym (stored-more ts es k t e
    (slice_get_read ts (length ts) k t refl within c.index-tensors-k.is)
    (slice_get_read es (length es) k e refl c.loop-k-test.true c.index-entries-k.is))
