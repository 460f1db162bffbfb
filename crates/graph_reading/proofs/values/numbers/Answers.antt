use Rattle.std.proofs.Common.{sym, ap, ◌∙◌, Some}
use Rattle.serde_json.specs.View.{view}
use Rattle.serde_json.specs.declared.value.Value.{Value}
use Rattle.graph_reading.specs.Values.{number_in}
use Rattle.graph_reading.proofs.ReadLemmas.{all_more, all_none}
use Rattle.graph_reading.proofs.values.numbers.Goals as goal

pub returns-in-None : goal.returns-in-None
returns-in-None c =
    let at = ap (λ (v : Value). number_in (view v)) (sym c.value-item.is) ∙ sym c.number.ensures ∙ c.in-None.is in
    all_none (λ (v : Value). number_in (view v)) c.args.list.now c.loop-value.value-index c.value-item.result c.loop-value-test.true at

pub loop-value-preserved : goal.loop-value-preserved
loop-value-preserved c =
    let at = ap (λ (v : Value). number_in (view v)) (sym c.value-item.is) ∙ sym c.number.ensures ∙ c.in-Some.is in
    all_more (λ (v : Value). number_in (view v)) c.args.list.now c.loop-value.value-index c.value-item.result c.loop-value.numbers.items c.in-Some.number c.loop-value-test.true c.loop-value.invariant at
    ∙ ap Some (sym c.in-Ok.ensures.items)
