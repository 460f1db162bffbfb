use Rattle.std.specs.Prelude.{◌≡◌, ◌<◌, ◌-◌, ℕ, length}
use Rattle.std.proofs.Common.{arith, sym, ◌∙◌, ap}
use Rattle.stream_model.specs.Labels.{result_sizes}
use Rattle.label_rules.proofs.rules.DropRules.{few}
use Rattle.label_rules.proofs.term.SmallPlans.{some_term}
use Rattle.custard_lower.proofs.term.PlanFacts.{no_entries, none-given}
use Rattle.graph_check.proofs.WritersFault.{levels-number}
use Rattle.graph_check.proofs.EachPlan.{each-plan, each-small}
use Rattle.graph_check.proofs.rules.LabelRules.new.Goals as goal

pub returns-clause-known : goal.returns-clause-known
returns-clause-known c =
    let p = c.args.program.now in
    let ok = c.requires in
    let some : 0 < length p.terms = some_term p ok in
    let number = levels-number p in
    let most : length (result_sizes p) < 9 = few p (no_entries p.tensors) ok (none-given p) 0 some in
    let counted : c.len.result ≡ length p.result.order = c.len.ensures in
    record {
      plan = λ t. rw (c.in_ok-plans.ensures, c.new.ensures, c.new-2.ensures) (each-plan p ok t);
      levels = counted ∙ sym number;
      last = c.saturating_sub.ensures ∙ ap (λ (n : ℕ). n - 1) c.len-2.ensures;
      few_levels = omega (arith, counted, number, most);
      small = each-small p ok;
    }
