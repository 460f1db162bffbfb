use Rattle.std.specs.Prelude.{◌≡◌, ◌<◌, ℕ, false, length}
use Rattle.std.proofs.Common.{arith, rules, sym, ◌∙◌}
use Rattle.graph.specs.Wiring.{block}
use Rattle.graph_check.specs.Writers.{writes_first}
use Rattle.graph_check.proofs.FirstFailing.{first-is, all-pass}
use Rattle.graph_check.proofs.writers.Writers.surplus.Goals as goal

pub returns-then-not-writes_first-clause-first : goal.returns-then-not-writes_first-clause-first
returns-then-not-writes_first-clause-first c =
    let w = c.args.self.now in
    let test = λ (b : ℕ). writes_first (length w.levels) w.graph.now b (block w.graph.now b).kind in
    let less : c.loop-b.b < length w.graph.now.blocks = omega arith in
    let fails : c.writes_first.result ≡ false = search rules in
    sym (first-is test (length w.graph.now.blocks) c.loop-b.b less c.loop-b.invariant (sym c.writes_first.ensures ∙ fails))

pub returns-clause-first : goal.returns-clause-first
returns-clause-first c =
    let w = c.args.self.now in
    let test = λ (b : ℕ). writes_first (length w.levels) w.graph.now b (block w.graph.now b).kind in
    c.len.ensures
    ∙ sym (all-pass test (length w.graph.now.blocks) (λ k i. c.loop-b.invariant k (omega (arith, i))))
