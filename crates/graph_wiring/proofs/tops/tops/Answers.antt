use Rattle.std.proofs.Common.{◌≡◌, ◌-◌, ℕ, None, length, replicate, arith, rules, subst}
use Rattle.graph_wiring.specs.Topping.{IsTopping}
use Rattle.graph_wiring.proofs.Topping.{TopsAbove, none-given, next-place, above-more, all-tops}
use Rattle.graph_wiring.proofs.tops.tops.Goals as goal

pub spread-requires-clause-kept : goal.spread-requires-clause-kept
spread-requires-clause-kept c =
    next-place c.args.g.now c.args.order.now c.loop-place.place (c.loop-place.place - 1) c.loop-place.topping.given.items c.loop-place.topping.tops.items
    c.loop-place.invariant.kept (omega arith)

pub loop-place-init : goal.loop-place-init
loop-place-init c =
    let none : c.in_ok-vec.field-0.items ≡ replicate c.len.result None = search rules in
    record {
      kept = none-given c.args.g.now c.args.order.now c.new.result.items c.in_ok-vec.field-0.items c.len.result c.new.ensures.items none c.len.ensures;
      above = λ q from l. absurd (omega (arith, from, l));
    }

pub loop-place-preserved : goal.loop-place-preserved
loop-place-preserved c = record {
  kept = c.in_ok-spread.ensures.kept;
  above = above-more c.args.g.now c.args.order.now c.loop-place.place (c.loop-place.place - 1) c.loop-place.topping.given.items c.loop-place.topping.tops.items
      c.spread.new.self.given.items c.spread.new.self.tops.items (length c.spread.new.self.given.items) (omega (arith, c.loop-place-test.true)) c.loop-place.invariant.above
      c.in_ok-spread.ensures.stay c.in_ok-spread.ensures.kept c.in_ok-spread.ensures.here;
}

pub returns : goal.returns
returns c =
    let e : c.loop-place.place ≡ 0 = omega (arith, c.loop-place-test.false) in
    all-tops c.args.g.now c.args.order.now c.loop-place.topping.given.items c.loop-place.topping.tops.items c.requires.joined c.requires.closing
    (subst (λ (n : ℕ). IsTopping c.args.g.now c.args.order.now n (length c.loop-place.topping.given.items) c.loop-place.topping.given.items c.loop-place.topping.tops.items) e
    c.loop-place.invariant.kept)
    (subst (λ (n : ℕ). TopsAbove c.args.order.now n c.loop-place.topping.tops.items) e c.loop-place.invariant.above)
