use Rattle.std.proofs.Common.{◌∙◌, List, ap, subst, sym}
use Rattle.std.proofs.lemmas.Result.{IfOk-weaker}
use Rattle.sam_model.specs.declared.program.Program.{Program}
use Rattle.sam_model.specs.Children.{Ranked}
use Rattle.sam_model.specs.Pattern.{ends_dense}
use Rattle.inputs.specs.Tensors.{AreStored}
use Rattle.gen_data.specs.Workload.{workload_entries}
use Rattle.machines.specs.Runnable.{Runnable}
use Rattle.machines.proofs.ProgramMachines.{program-runs}
use Rattle.large.specs.Summaries.{large_text, summary_of}
use Rattle.large.proofs.SummaryLemmas.{summary-told}
use Rattle.large.proofs.large_text.Goals as goal

pub run-requires : goal.run-requires
run-requires c =
    let p = c.in_ok-program.program in
    let g = c.in_ok-graph.graph in
    subst (λ (s : List Ranked). Runnable s g) (sym c.as_slice.ensures)
    (program-runs p g c.in_ok-graph.ensures.computes (workload_entries c.args.n) c.in_ok-program.storages c.in_ok-program.ensures.stored)

pub returns : goal.returns
unfolding large_text
returns c =
    let p = c.in_ok-program.program in
    let g = c.in_ok-graph.graph in
    let es = workload_entries c.args.n in
    let s = c.in_ok-summary.summary in
    let stored = subst (λ (l : List Ranked). AreStored p.tensors es l) (sym c.as_slice.ensures) c.in_ok-program.ensures.stored in
    let told =
    summary-told p c.in_ok-program.ensures.accepted (ap (λ (q : Program). ends_dense q.result) c.in_ok-program.ensures.program) g c.in_ok-graph.ensures es c.as_slice.result.now stored s.entries s.values s.moves
    c.in_ok-summary.ensures.entries c.in_ok-summary.ensures.values c.in_ok-summary.ensures.moves in
    IfOk-weaker c.text.result _ _
    (λ text is. is ∙ told ∙ ap (λ (q : Program). summary_of q es) c.in_ok-program.ensures.program)
    c.text.ensures
