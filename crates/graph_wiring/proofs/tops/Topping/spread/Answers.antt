use Rattle.std.proofs.Common.{◌≡◌, ◌+◌, ℕ, suc, get_or, arith, subst}
use Rattle.graph_wiring.specs.Topping.{IsTopping}
use Rattle.graph_wiring.proofs.Topping.{stay-on, stay-some}
use Rattle.graph_wiring.proofs.tops.Topping.spread.Goals as goal

pub loop-passed-preserved : goal.loop-passed-preserved
loop-passed-preserved c =
    let next : suc c.loop-passed.passed ≡ c.loop-passed.passed + 1 = omega arith in
    record {
      kept = subst (λ (n : ℕ). IsTopping c.args.g.now c.args.order.now c.args.place n c.pass_back.new.self.given.items c.pass_back.new.self.tops.items) next
          c.in_ok-pass_back.ensures.kept;
      stay = stay-on c.args.self.now.given.items c.args.self.now.tops.items c.loop-passed.self.given.items c.loop-passed.self.tops.items
          c.pass_back.new.self.given.items c.pass_back.new.self.tops.items c.loop-passed.invariant.stay c.in_ok-pass_back.ensures.stay;
      here = stay-some c.loop-passed.self.given.items c.loop-passed.self.tops.items c.pass_back.new.self.given.items c.pass_back.new.self.tops.items
          (get_or c.args.order.now c.args.place 0) c.in_ok-pass_back.ensures.stay c.loop-passed.invariant.here;
    }
