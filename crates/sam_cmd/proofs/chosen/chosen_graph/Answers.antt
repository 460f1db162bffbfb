use Rattle.std.proofs.Common.{sym, subst}
use Rattle.std.specs.Prelude.{IfOk}
use Rattle.std.proofs.lemmas.Result.{IfOk-weaker}
use Rattle.words.specs.declared.asking.Lowering.{Lowering}
use Rattle.sam_cmd.specs.Chosen.{IsChosen}
use Rattle.sam_cmd.proofs.chosen.chosen_graph.Goals as goal

pub returns-in-Plain : goal.returns-in-Plain
returns-in-Plain c =
    let p = c.args.p.now in
    subst (λ (lowering : Lowering). IfOk c.lower.result (IsChosen lowering p)) (sym c.in-Plain.is)
    (IfOk-weaker c.lower.result _ _ (λ g is. record { is_chosen = is.is_low; computes = is.computes }) c.lower.ensures)

pub returns-in-Fused : goal.returns-in-Fused
returns-in-Fused c =
    let p = c.args.p.now in
    subst (λ (lowering : Lowering). IfOk c.fuse.result (IsChosen lowering p)) (sym c.in-Fused.is)
    (IfOk-weaker c.fuse.result _ _ (λ g is. record { is_chosen = is.is_fus; computes = is.computes }) c.fuse.ensures)
