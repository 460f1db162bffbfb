use Rattle.std.proofs.Common.{◌≡◌, ◌<◌, ℕ, length, get_or, arith, ap, sym, subst, inl, inr, ◌∙◌}
use Rattle.std.proofs.lemmas.Bool.{cases_lt}
use Rattle.std.proofs.lemmas.List.{get_or_read}
use Rattle.graph.specs.declared.graphs.Block.{Block}
use Rattle.graph.specs.Wiring.{block}
use Rattle.graph.specs.Placing.{sender}
use Rattle.graph_wiring.specs.Leading.{Reaches}
use Rattle.graph_wiring.specs.Topping.{top}
use Rattle.graph_wiring.proofs.Topping.{sender-reaches, stay-on, stay-some, passed-more}
use Rattle.graph_wiring.proofs.tops.Topping.pass_back.Goals as goal

pub give-requires-clause-reaches : goal.give-requires-clause-reaches
give-requires-clause-reaches c =
    let stay = c.loop-port.invariant.stay in
    let first : get_or c.args.self.now.given.items c.args.passed 0 ≡ c.index-b.result.now =
    sym (get_or_read c.args.self.now.given.items c.args.passed c.index-b.result.now c.requires.more c.index-b.ensures 0) in
    let here : get_or c.loop-port.self.given.items c.args.passed 0 ≡ c.index-b.result.now = stay.front c.args.passed c.requires.more ∙ first in
    let ports : length c.block.result.now.ins ≡ length (block c.args.g.now c.index-b.result.now).ins = ap (λ (x : Block). length x.ins) c.block.ensures in
    subst (λ (x : ℕ). Reaches c.args.g.now x (get_or c.args.order.now c.args.place 0)) (sym c.sender.ensures.sender)
    (sender-reaches c.args.g.now c.args.order.now c.args.place c.args.passed c.loop-port.self.given.items c.loop-port.self.tops.items c.index-b.result.now c.loop-port.port
    c.requires.joined c.loop-port.invariant.kept (omega (arith, c.requires.more, stay.longer)) here
    (omega (arith, c.loop-port-test.true, c.len-port-end.ensures, ports)))

pub loop-port-preserved : goal.loop-port-preserved
loop-port-preserved c = record {
  kept = c.in_ok-give.ensures.kept;
  stay = stay-on c.args.self.now.given.items c.args.self.now.tops.items c.loop-port.self.given.items c.loop-port.self.tops.items
      c.give.new.self.given.items c.give.new.self.tops.items c.loop-port.invariant.stay c.in_ok-give.ensures.stay;
  all = λ p l.
      elim (cases_lt p c.loop-port.port) [
        | inl less ↦ stay-some c.loop-port.self.given.items c.loop-port.self.tops.items c.give.new.self.given.items c.give.new.self.tops.items
            (sender c.args.g.now c.index-b.result.now p) c.in_ok-give.ensures.stay (c.loop-port.invariant.all p less)
        | inr end ↦ let e : c.loop-port.port ≡ p = omega (arith, l, end) in
            subst (λ (x : ℕ). 0 < top c.give.new.self.tops.items (sender c.args.g.now c.index-b.result.now x)) e
            (subst (λ (x : ℕ). 0 < top c.give.new.self.tops.items x) c.sender.ensures.sender c.in_ok-give.ensures.here)
      ];
}

pub returns-clause-kept : goal.returns-clause-kept
returns-clause-kept c =
    let stay = c.loop-port.invariant.stay in
    let first : get_or c.args.self.now.given.items c.args.passed 0 ≡ c.index-b.result.now =
    sym (get_or_read c.args.self.now.given.items c.args.passed c.index-b.result.now c.requires.more c.index-b.ensures 0) in
    let here : get_or c.loop-port.self.given.items c.args.passed 0 ≡ c.index-b.result.now = stay.front c.args.passed c.requires.more ∙ first in
    let ports : length c.block.result.now.ins ≡ length (block c.args.g.now c.index-b.result.now).ins = ap (λ (x : Block). length x.ins) c.block.ensures in
    passed-more c.args.g.now c.args.order.now c.args.place c.args.passed c.loop-port.self.given.items c.loop-port.self.tops.items c.index-b.result.now
    c.loop-port.invariant.kept (omega (arith, c.requires.more, stay.longer)) here
    (λ p lp. c.loop-port.invariant.all p (omega (arith, lp, c.loop-port-test.false, c.len-port-end.ensures, ports)))
