use Rattle.std.proofs.Common.{List, [], ◌∷◌, ◌++◌, ◌≡◌, ℕ, set, sym, subst, Some, arith}
use Rattle.graph_wiring.specs.Topping.{IsTopping}
use Rattle.graph_wiring.proofs.Topping.{none-read, given-top}
use Rattle.graph_wiring.proofs.tops.Topping.give.Goals as goal

pub returns-in_ok-push-clause-kept : goal.returns-in_ok-push-clause-kept
returns-in_ok-push-clause-kept c =
    let none = none-read c.args.self.now.tops.items c.args.b c.index.result.now c.is_none.result (omega (arith, c.requires.block, c.requires.kept.number))
    c.index.ensures c.is_none.ensures c.if-is_none.true in
    let long : c.push.new.self.items ≡ c.args.self.now.given.items ++ c.args.b ∷ [] = c.in_ok-push.ensures.items in
    subst (λ (xs : List ℕ). IsTopping c.args.g.now c.args.order.now c.args.place c.args.passed xs (set c.args.self.now.tops.items c.args.b (Some c.args.place))) (sym long)
    (given-top c.args.g.now c.args.order.now c.args.place c.args.passed c.args.self.now.given.items c.args.self.now.tops.items c.args.b
    c.requires.kept c.requires.block c.requires.place c.requires.reaches none)
