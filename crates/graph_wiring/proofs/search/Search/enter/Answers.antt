use Rattle.std.proofs.Common.{List, [], ◌∷◌, ◌++◌, ◌≡◌, ℕ, set, sym, subst}
use Rattle.graph_wiring.specs.declared.search.Progress.TheVariants.{Open}
use Rattle.graph_wiring.specs.Searching.{IsSearch}
use Rattle.graph_wiring.proofs.Searching.{entered}
use Rattle.graph_wiring.proofs.search.Search.enter.Goals as goal

pub returns-clause-kept : goal.returns-clause-kept
returns-clause-kept c =
    let long : c.push.new.self.items ≡ c.args.self.now.stack.items ++ c.args.b ∷ [] = c.in_ok-push.ensures.items in
    subst (λ (xs : List ℕ). IsSearch c.args.g.now xs c.args.self.now.order.items (set c.args.self.now.progress.items c.args.b (Open 0))) (sym long)
    (entered c.args.g.now c.args.self.now.stack.items c.args.self.now.order.items c.args.self.now.progress.items c.args.b
    c.requires.kept c.requires.block c.requires.fresh c.requires.led)
