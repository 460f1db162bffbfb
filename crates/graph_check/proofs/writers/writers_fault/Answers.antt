use Rattle.std.specs.Prelude.{ℕ, ◌&&◌, length, leb}
use Rattle.std.proofs.Common.{sym, ◌∙◌, ap}
use Rattle.graph_check.proofs.WritersFault.{fault-is, met, unmet, levels-number}
use Rattle.graph_check.proofs.writers.writers_fault.Goals as goal

pub returns-then-is_met : goal.returns-then-is_met
returns-then-is_met c =
    let w = c.in_ok-writers.writers in
    let b = c.surplus-surplus.result in
    let m = leb c.len-2.result b && c.are_all.result in
    met b m c.if-is_met.true
    ∙ fault-is c.args.p.now c.args.g.now w.graph.now (length w.levels) b c.are_all.result m c.in_ok-writers.ensures.graph
    (c.in_ok-writers.ensures.number ∙ c.len.ensures ∙ sym (levels-number c.args.p.now))
    c.surplus-surplus.ensures.first c.are_all.ensures (ap (λ (n : ℕ). leb n b && c.are_all.result) c.len-2.ensures)

pub returns : goal.returns
returns c =
    let w = c.in_ok-writers.writers in
    let b = c.surplus-surplus.result in
    let m = leb c.len-2.result b && c.are_all.result in
    unmet b m c.if-is_met.false
    ∙ fault-is c.args.p.now c.args.g.now w.graph.now (length w.levels) b c.are_all.result m c.in_ok-writers.ensures.graph
    (c.in_ok-writers.ensures.number ∙ c.len.ensures ∙ sym (levels-number c.args.p.now))
    c.surplus-surplus.ensures.first c.are_all.ensures (ap (λ (n : ℕ). leb n b && c.are_all.result) c.len-2.ensures)
