use Rattle.std.specs.Prelude.{◌≡◌, ℕ, length}
use Rattle.std.specs.List.{range_with_len}
use Rattle.std.proofs.Common.{arith, sym, ◌∙◌, ap}
use Rattle.std.proofs.lemmas.List.FromFn.{length-map-range_with_len}
use Rattle.graph.specs.Writers.{writes_level, first_block}
use mathlib.Core.List.{map}
use Rattle.graph_check.proofs.Positions.{level-more}
use Rattle.graph_check.proofs.writers.Writers.new.Goals as goal

pub loop-level-preserved : goal.loop-level-preserved
loop-level-preserved c =
    let first = λ (d : ℕ). first_block (writes_level d) c.args.graph.now in
    level-more first c.loop-level.level c.loop-level.firsts c.push.new.self c.level_writer.result c.loop-level.invariant c.level_writer.ensures
    c.in_ok-push.ensures.ok

pub returns-clause-number : goal.returns-clause-number
returns-clause-number c =
    let first = λ (d : ℕ). first_block (writes_level d) c.args.graph.now in
    let end : c.loop-level.level ≡ c.args.levels = omega arith in
    ap length c.loop-level.invariant ∙ length-map-range_with_len first 1 c.loop-level.level ∙ end

pub returns-clause-first : goal.returns-clause-first
returns-clause-first c =
    let first = λ (d : ℕ). first_block (writes_level d) c.args.graph.now in
    let long : length c.loop-level.firsts ≡ c.loop-level.level = ap length c.loop-level.invariant ∙ length-map-range_with_len first 1 c.loop-level.level in
    record {
      levels = c.loop-level.invariant ∙ ap (λ (n : ℕ). map first (range_with_len 1 n)) (sym long);
      values = c.value_writer.ensures;
    }
