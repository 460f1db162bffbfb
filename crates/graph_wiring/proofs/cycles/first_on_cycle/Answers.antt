use Rattle.std.proofs.Common.{◌≡◌, ◌<◌, ℕ, Option, List, length, arith, inl, inr, subst}
use Rattle.std.proofs.lemmas.Bool.{cases_lt, both_ways}
use Rattle.graph_wiring.specs.Topping.{KeepsTop, IsTops}
use Rattle.graph_wiring.proofs.Components.{cycle-keeps, keeps-cycle, none-keeps, cycle-there}
use Rattle.graph_wiring.proofs.cycles.first_on_cycle.Goals as goal

pub returns-then-keeps_top-clause-first : goal.returns-then-keeps_top-clause-first
returns-then-keeps_top-clause-first c =
    let g = c.args.g.now in
    let order = c.in_ok-order.order.items in
    let tops = c.in_ok-tops.tops.items in
    let given : IsTops g c.as_slice.result.now tops = c.in_ok-tops.ensures in
    let t : IsTops g order tops = subst (λ (xs : List ℕ). IsTops g xs tops) c.as_slice.ensures.value given in
    let keeps : KeepsTop g tops c.loop-b.b =
    subst (λ (xs : List (Option ℕ)). KeepsTop g xs c.loop-b.b) c.as_slice-in-loop-b.ensures.value (c.keeps_top.ensures.0 c.if-keeps_top.true) in
    let l : c.loop-b.b < length g.blocks = omega (arith, c.loop-b-test.true, c.len-b-end.ensures) in (
      l,
      keeps-cycle g order tops c.requires c.in_ok-order.ensures t c.loop-b.b l keeps,
      λ a la cycle. c.loop-b.invariant a la (cycle-keeps g order tops c.requires t a cycle),
    )

pub loop-b-preserved : goal.loop-b-preserved
loop-b-preserved c b l keeps =
    elim (cases_lt b c.loop-b.b) [
      | inl less ↦ c.loop-b.invariant b less keeps
      | inr top ↦ let e : b ≡ c.loop-b.b = omega (arith, l, top) in
          let here : KeepsTop c.args.g.now c.in_ok-tops.tops.items c.loop-b.b = subst (λ (x : ℕ). KeepsTop c.args.g.now c.in_ok-tops.tops.items x) e keeps in
          both_ways c.keeps_top.result c.if-keeps_top.false
          (c.keeps_top.ensures.1 (rw c.as_slice-in-loop-b.ensures.value here))
    ]

pub returns-clause-first : goal.returns-clause-first
returns-clause-first c b cycle =
    let g = c.args.g.now in
    let order = c.in_ok-order.order.items in
    let tops = c.in_ok-tops.tops.items in
    let given : IsTops g c.as_slice.result.now tops = c.in_ok-tops.ensures in
    let t : IsTops g order tops = subst (λ (xs : List ℕ). IsTops g xs tops) c.as_slice.ensures.value given in
    let l : b < length g.blocks = cycle-there g b c.requires cycle in
    c.loop-b.invariant b (omega (arith, l, c.loop-b-test.false, c.len-b-end.ensures)) (cycle-keeps g order tops c.requires t b cycle)

pub returns-clause-forwards : goal.returns-clause-forwards
returns-clause-forwards c _ =
    let g = c.args.g.now in
    let order = c.in_ok-order.order.items in
    let tops = c.in_ok-tops.tops.items in
    let given : IsTops g c.as_slice.result.now tops = c.in_ok-tops.ensures in
    let t : IsTops g order tops = subst (λ (xs : List ℕ). IsTops g xs tops) c.as_slice.ensures.value given in
    none-keeps g order tops c.requires t
    (λ b l. c.loop-b.invariant b (omega (arith, l, c.loop-b-test.false, c.len-b-end.ensures)))
