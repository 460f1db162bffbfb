use Rattle.std.proofs.Common.{◌≡◌, ◌<◌, ◌≤◌, ℕ, List, [], ◌∷◌, ◌++◌, length, set, arith, ap, sym, subst}
use Rattle.graph.specs.declared.order.Progress.TheVariants.{Placed}
use Rattle.graph.specs.declared.graphs.Block.{Block}
use Rattle.graph.specs.Wiring.{block}
use Rattle.graph.specs.Placing.{IsPlacing}
use Rattle.graph.proofs.Placing.{reached-read, kept-on, kept-placed}
use Rattle.graph.proofs.order.Placing.advance.Goals as goal

pub returns-then-port-len-clause-kept : goal.returns-then-port-len-clause-kept
returns-then-port-len-clause-kept c =
    let there : c.args.b < length c.args.self.now.progress.items = omega (arith, c.requires.block, c.requires.kept.number) in
    kept-on c.args.g.now c.args.self.now.order.items c.args.self.now.progress.items c.args.b c.in-WaitsAt.from c.next_port-port.result
    c.requires.kept c.requires.block
    (reached-read c.args.self.now.progress.items c.args.b c.in-WaitsAt.from c.index.result.now there c.index.ensures c.in-WaitsAt.is)
    c.next_port-port.ensures.within c.next_port-port.ensures.past

pub returns-in_ok-push-clause-kept : goal.returns-in_ok-push-clause-kept
returns-in_ok-push-clause-kept c =
    let there : c.args.b < length c.args.self.now.progress.items = omega (arith, c.requires.block, c.requires.kept.number) in
    let all : c.next_port-port.result ≡ length (block c.args.g.now c.args.b).ins =
    let most : c.next_port-port.result ≤ length (block c.args.g.now c.args.b).ins = c.next_port-port.ensures.within in
    let same : length c.block.result.now.ins ≡ length (block c.args.g.now c.args.b).ins = ap (λ (x : Block). length x.ins) c.block.ensures in
    omega (arith, most, same, c.len.ensures, c.if-port-len.false) in
    let long : c.push.new.self.items ≡ c.args.self.now.order.items ++ c.args.b ∷ [] = c.in_ok-push.ensures.items in
    subst (λ (xs : List ℕ). IsPlacing c.args.g.now xs (set c.args.self.now.progress.items c.args.b Placed)) (sym long)
    (kept-placed c.args.g.now c.args.self.now.order.items c.args.self.now.progress.items c.args.b c.in-WaitsAt.from
    c.requires.kept c.requires.block
    (reached-read c.args.self.now.progress.items c.args.b c.in-WaitsAt.from c.index.result.now there c.index.ensures c.in-WaitsAt.is)
    (λ p on l. c.next_port-port.ensures.past p on (omega (arith, l, all)))
    (λ p l. ((c.requires.joined.channels) _ (((c.requires.joined.blocks) _ c.requires.block).in_named p l).0).came.0))
