use Rattle.std.proofs.Common.{ap, ap₂, ◌∙◌, true}
use Rattle.std.proofs.lemmas.Result.{IfOk-weaker}
use Rattle.clap.specs.Words.{with_rule}
use Rattle.clap.specs.Simple.{app_of_fields, on_top}
use Rattle.words.proofs.line.line.Goals as goal

pub returns : goal.returns
returns c =
    let base = ap app_of_fields c.no_binary_name.ensures ∙ ap (on_top (λ s. record s { no_binary_name = true })) c.new.ensures.app in
    let at_1 = c.in_ok-arg.ensures.shape c.place.ensures.local ∙ ap₂ with_rule base c.place.ensures.rule in
    let at_2 = c.in_ok-arg-2.ensures.shape c.place-2.ensures.local ∙ ap₂ with_rule at_1 c.place-2.ensures.rule in
    let at_3 = c.in_ok-arg-3.ensures.shape c.place_if.ensures.local ∙ ap₂ with_rule at_2 c.place_if.ensures.rule in
    let at_4 = c.in_ok-arg-4.ensures.shape c.option.ensures.local ∙ ap₂ with_rule at_3 c.option.ensures.rule in
    let at_5 = c.in_ok-arg-5.ensures.shape c.option-2.ensures.local ∙ ap₂ with_rule at_4 c.option-2.ensures.rule in
    let at_6 = c.in_ok-arg-6.ensures.shape c.option-3.ensures.local ∙ ap₂ with_rule at_5 c.option-3.ensures.rule in
    IfOk-weaker c.arg-7.result _ _ (λ command h. h.shape c.flag.ensures.local ∙ ap₂ with_rule at_6 c.flag.ensures.rule) c.arg-7.ensures
