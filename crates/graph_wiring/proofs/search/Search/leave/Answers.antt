use Rattle.std.proofs.Common.{List, [], ◌∷◌, ◌++◌, ◌≡◌, ◌-◌, ℕ, set, sym, subst, length, take, vec_len, arith}
use Rattle.std.proofs.lemmas.Grind.{common_steps}
use Rattle.graph_wiring.specs.declared.search.Progress.TheVariants.{Done}
use Rattle.graph_wiring.specs.Searching.{IsSearch}
use Rattle.graph_wiring.proofs.Listing.{before-last}
use Rattle.graph_wiring.proofs.Searching.{left}
use Rattle.graph_wiring.proofs.search.Search.leave.Goals as goal

pub returns-clause-kept : goal.returns-clause-kept
returns-clause-kept c =
    let n : ℕ = length c.args.self.now.stack.items - 1 in
    let long-stack : vec_len c.args.self.now.stack ≡ length c.args.self.now.stack.items = grind (arith, common_steps) in
    let same : vec_len c.args.self.now.stack - 1 ≡ n = omega (arith, long-stack) in
    let front : c.pop.new.self.items ≡ take n c.args.self.now.stack.items =
    subst (λ (k : ℕ). c.pop.new.self.items ≡ take k c.args.self.now.stack.items) same c.pop.ensures.rest in
    let e : c.args.self.now.stack.items ≡ c.pop.new.self.items ++ c.args.b ∷ [] =
    before-last c.args.self.now.stack.items c.pop.new.self.items n c.args.b (omega (arith, c.requires.some)) front c.requires.last in
    let long : c.push.new.self.items ≡ c.args.self.now.order.items ++ c.args.b ∷ [] = c.in_ok-push.ensures.items in
    subst (λ (xs : List ℕ). IsSearch c.args.g.now c.pop.new.self.items xs (set c.args.self.now.progress.items c.args.b Done)) (sym long)
    (left c.args.g.now c.pop.new.self.items c.args.self.now.order.items c.args.self.now.progress.items c.args.b
    (subst (λ (xs : List ℕ). IsSearch c.args.g.now xs c.args.self.now.order.items c.args.self.now.progress.items) e c.requires.kept) c.requires.met)
