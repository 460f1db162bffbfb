use Rattle.std.proofs.Common.{◌<◌, ℕ, arith, sym}
use Rattle.std.proofs.lemmas.Bool.{ltb-true}
use Rattle.graph.specs.Writers.{writes_level, first_block}
use Rattle.graph_check.proofs.Positions.{level-at}
use Rattle.graph_check.proofs.writers.Writers.is_first_of_level.Goals as goal

pub returns-in-Some : goal.returns-in-Some
returns-in-Some c =
    let w = c.args.self.now in
    let some : 0 < c.args.level = omega arith in
    level-at (λ (d : ℕ). first_block (writes_level d) w.graph.now) w.levels c.as_slice.result.now c.args.b c.args.level c.in-Some.first.now
    c.as_slice.ensures c.requires.levels some (ltb-true _ _ (sym c.in-Some.ensures.lookup.0)) c.in-Some.ensures.lookup.1
