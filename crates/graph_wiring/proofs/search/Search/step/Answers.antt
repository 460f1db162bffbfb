use Rattle.std.proofs.Common.{◌≡◌, ◌<◌, ◌≤◌, ◌-◌, ℕ, length, get_or, sym, subst, arith, ap, IfOk}
use Rattle.std.specs.List.{sum_by}
use Rattle.std.proofs.lemmas.List.{get_or_read}
use Rattle.graph.specs.declared.graphs.Block.{Block}
use Rattle.graph.specs.Wiring.{block}
use Rattle.graph_wiring.specs.Searching.{steps_of}
use Rattle.graph_wiring.proofs.Searching.{let_pass, leads-on, steps-same, open-read}
use Rattle.graph_wiring.proofs.search.Search.step.Goals as goal

pub enter-requires-clause-kept : goal.enter-requires-clause-kept
enter-requires-clause-kept c =
    let n : ℕ = c.len.result - 1 in
    let ln : n < length c.args.self.now.stack.items = omega (arith, c.requires.some, c.len.ensures) in
    let e : get_or c.args.self.now.stack.items n 0 ≡ c.index-b.result.now = sym (get_or_read c.args.self.now.stack.items n c.index-b.result.now ln c.index-b.ensures 0) in
    let lb : c.index-b.result.now < length c.args.g.now.blocks = subst (λ (x : ℕ). x < length c.args.g.now.blocks) e (c.requires.kept.opened n ln).0 in
    let_pass c.args.g.now c.args.self.now.stack.items c.args.self.now.order.items c.args.self.now.progress.items c.index-b.result.now c.in-Open.from c.fresh_port-port.result
    c.requires.kept lb
    (open-read c.args.self.now.progress.items c.index-b.result.now c.in-Open.from c.index.result.now (omega (arith, lb, c.requires.kept.number)) c.index.ensures c.in-Open.is)
    c.fresh_port-port.ensures.within c.fresh_port-port.ensures.past

pub enter-requires-clause-led : goal.enter-requires-clause-led
enter-requires-clause-led c =
    let n : ℕ = c.len.result - 1 in
    let ln : n < length c.args.self.now.stack.items = omega (arith, c.requires.some, c.len.ensures) in
    let e : get_or c.args.self.now.stack.items n 0 ≡ c.index-b.result.now = sym (get_or_read c.args.self.now.stack.items n c.index-b.result.now ln c.index-b.ensures 0) in
    let lb : c.index-b.result.now < length c.args.g.now.blocks = subst (λ (x : ℕ). x < length c.args.g.now.blocks) e (c.requires.kept.opened n ln).0 in
    let ports : length c.block.result.now.outs ≡ length (block c.args.g.now c.index-b.result.now).outs = ap (λ (x : Block). length x.outs) c.block.ensures in
    let most : c.fresh_port-port.result ≤ length (block c.args.g.now c.index-b.result.now).outs = c.fresh_port-port.ensures.within in
    leads-on c.args.g.now c.args.self.now.stack.items c.args.self.now.order.items c.args.self.now.progress.items n c.index-b.result.now c.fresh_port-port.result c.receiver.result
    c.requires.joined c.requires.kept (omega (arith, c.requires.some, c.len.ensures)) e lb
    (omega (arith, most, ports, c.len-2.ensures, c.if-port-len.false)) c.receiver.ensures.receiver

pub returns-clause-less : goal.returns-clause-less
returns-clause-less c =
    let n : ℕ = c.len.result - 1 in
    let ln : n < length c.args.self.now.stack.items = omega (arith, c.requires.some, c.len.ensures) in
    let e : get_or c.args.self.now.stack.items n 0 ≡ c.index-b.result.now = sym (get_or_read c.args.self.now.stack.items n c.index-b.result.now ln c.index-b.ensures 0) in
    let lb : c.index-b.result.now < length c.args.g.now.blocks = subst (λ (x : ℕ). x < length c.args.g.now.blocks) e (c.requires.kept.opened n ln).0 in
    let l : c.index-b.result.now < length c.args.self.now.progress.items = omega (arith, lb, c.requires.kept.number) in
    let same = steps-same c.args.self.now.progress.items c.index-b.result.now c.in-Open.from c.fresh_port-port.result l
    (open-read c.args.self.now.progress.items c.index-b.result.now c.in-Open.from c.index.result.now l c.index.ensures c.in-Open.is) in
    subst (λ (m : ℕ). IfOk c.enter.result (λ _. sum_by steps_of c.enter.new.self.progress.items < m)) same c.enter.ensures.less
