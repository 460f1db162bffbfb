use Rattle.std.proofs.Common.{◌≡◌, ◌∙◌, sym, ap, refl, subst, Some, slice_get, false}
use Rattle.std.proofs.Math.Logic.{∥∥₁_map}
use Rattle.std.proofs.lemmas.Result.{IfOk-weaker}
use Rattle.std.proofs.lemmas.Option.{slice_get_read}
use Rattle.block_core.specs.Move.{Taking}
use Rattle.block_core.specs.Kind.{moves}
use Rattle.plays.proofs.Lists.{same_some}
use Rattle.stepper.proofs.at.take_at.Goals as goal

pub take-requires : goal.take-requires
take-requires g c =
    ∥∥₁_map c.requires.may (λ m.
    let e = same_some m.0 c.index_mut.result.now (sym m.3 ∙ slice_get_read _ _ c.args.block c.index_mut.result.now refl c.requires.within c.index_mut.ensures.value) in
    (m.1, m.2, subst (λ z. g.B.BlockStep.stands z m.1 m.2) e m.4, subst (λ z. slice_get (moves (g.B.BlockStep.kind z) m.1) m.2 ≡ Some (Taking c.args.port c.args.t)) e m.5))

pub returns-clause-moved : goal.returns-clause-moved
returns-clause-moved g c =
    IfOk-weaker c.take.result _ _ (λ _ m x at.
    let e = same_some x c.index_mut.result.now (sym at ∙ slice_get_read _ _ c.args.block c.index_mut.result.now refl c.requires.within c.index_mut.ensures.value) in (
      c.take.new.self,
      refl,
      c.take.ensures.same_kind ∙ ap g.B.BlockStep.kind (sym e),
      λ s n st k. m s n (subst (λ z. g.B.BlockStep.stands z s n) e st)
          (subst (λ z. slice_get (moves (g.B.BlockStep.kind z) s) n ≡ Some (Taking c.args.port c.args.t)) e k),
    ))
    c.take.ensures.moved

pub returns-clause-sure : goal.returns-clause-sure
returns-clause-sure g c = λ x at f.
    let e = same_some x c.index_mut.result.now (sym at ∙ slice_get_read _ _ c.args.block c.index_mut.result.now refl c.requires.within c.index_mut.ensures.value) in
    c.take.ensures.sure (subst (λ z. g.B.BlockStep.may_refuse z ≡ false) e f)
