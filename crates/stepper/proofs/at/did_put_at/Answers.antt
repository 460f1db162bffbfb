use Rattle.std.proofs.Common.{◌≡◌, ◌∙◌, sym, ap, refl, subst, Some, slice_get}
use Rattle.std.proofs.Math.Logic.{∥∥₁_map}
use Rattle.std.proofs.lemmas.Option.{slice_get_read}
use Rattle.block_core.specs.Move.{Putting}
use Rattle.block_core.specs.Kind.{moves}
use Rattle.plays.proofs.Lists.{same_some}
use Rattle.stepper.proofs.at.did_put_at.Goals as goal

pub did_put-requires : goal.did_put-requires
did_put-requires g c =
    ∥∥₁_map c.requires.may (λ m.
    let e = same_some m.0 c.index_mut.result.now (sym m.5 ∙ slice_get_read _ _ c.args.block c.index_mut.result.now refl c.requires.within c.index_mut.ensures.value) in
    (m.1, m.2, m.3, m.4, subst (λ z. g.B.BlockStep.stands z m.1 m.2) e m.6, subst (λ z. slice_get (moves (g.B.BlockStep.kind z) m.1) m.2 ≡ Some (Putting m.3 m.4)) e m.7))

pub returns-clause-moved : goal.returns-clause-moved
returns-clause-moved g c = λ x at.
    let e = same_some x c.index_mut.result.now (sym at ∙ slice_get_read _ _ c.args.block c.index_mut.result.now refl c.requires.within c.index_mut.ensures.value) in (
      c.did_put.new.self,
      refl,
      c.did_put.ensures.same_kind ∙ ap g.B.BlockStep.kind (sym e),
      λ s n p t st k. c.did_put.ensures.moved s n p t (subst (λ z. g.B.BlockStep.stands z s n) e st)
          (subst (λ z. slice_get (moves (g.B.BlockStep.kind z) s) n ≡ Some (Putting p t)) e k),
    )
