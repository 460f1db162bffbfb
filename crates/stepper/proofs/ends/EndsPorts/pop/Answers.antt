use Rattle.std.proofs.Common.{◌∙◌, sym, ap, subst, refl, length}
use Rattle.std.proofs.lemmas.Option.{slice_get-get_or}
use Rattle.std.proofs.lemmas.List.{length-set}
use Rattle.plays.specs.Told.{HasLists}
use Rattle.plays.specs.Rest.{no_queue}
use Rattle.plays.proofs.Rests.{input_port, input_queue, made_take}
use Rattle.stepper.proofs.ends.EndsPorts.pop.Goals as goal

pub bounds-ins-port : goal.bounds-ins-port
bounds-ins-port g c = input_port _ c.args.port c.requires.may

pub pop_at-requires : goal.pop_at-requires
pop_at-requires g c = input_queue _ c.args.port c.requires.may

pub returns-clause-same_ends : goal.returns-clause-same_ends
returns-clause-same_ends g c =
    let l = input_queue _ c.args.port c.requires.may in
    let n = ap length (c.pop_at.ensures.left _ (slice_get-get_or _ _ no_queue l)) ∙ length-set _ _ _ in
    (refl, refl, record { block = refl; ins = refl; outs = refl; number = n; lists = λ h. subst (λ k. HasLists k (g.T.Tap.told c.args.self.now.tap.now)) (sym n) h })

pub returns-clause-taken : goal.returns-clause-taken
returns-clause-taken g c = λ t first.
    let l = input_queue _ c.args.port c.requires.may in
    made_take _ c.args.port t _ _ first l (c.pop_at.ensures.left _ (slice_get-get_or _ _ no_queue l)) c.one_more-self.ensures
