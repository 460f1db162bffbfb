use Rattle.std.proofs.Common.{sym, ap, ◌∙◌, Some, subst}
use Rattle.std.specs.Prelude.{Err}
use Rattle.serde_json.specs.View.{view}
use Rattle.serde_json.specs.declared.value.Value.{Value}
use Rattle.graph_reading.specs.Answers.{Answers}
use Rattle.graph_reading.specs.Graphs.{block_in}
use Rattle.graph_reading.proofs.ReadLemmas.{all_more, stops}
use Rattle.graph_reading.proofs.blocks.block_list.Goals as goal

pub returns-in-Err : goal.returns-in-Err
returns-in-Err c =
    stops (λ (v : Value). block_in c.args.p.now (view v)) c.args.list.now c.loop-value.value-index c.value-item.result c.loop-value-test.true c.in-Err.fault
    (subst (λ (v : Value). Answers (block_in c.args.p.now (view v)) (Err c.in-Err.fault)) c.value-item.is c.in-Err.ensures)

pub loop-value-preserved : goal.loop-value-preserved
loop-value-preserved c =
    let at = ap (λ (v : Value). block_in c.args.p.now (view v)) (sym c.value-item.is) ∙ c.in-Ok.ensures in
    all_more (λ (v : Value). block_in c.args.p.now (view v)) c.args.list.now c.loop-value.value-index c.value-item.result c.loop-value.blocks.items c.in-Ok.block c.loop-value-test.true c.loop-value.invariant at
    ∙ ap Some (sym c.in-Ok-push.ensures.items)
