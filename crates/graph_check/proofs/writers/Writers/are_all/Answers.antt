use Rattle.std.specs.Prelude.{◌≡◌, ℕ, ltb, List, length}
use Rattle.std.specs.List.{list_all, range_with_len}
use Rattle.std.proofs.Common.{◌∙◌, ap, refl}
use Rattle.std.proofs.lemmas.List.Folds.{list_all-map}
use Rattle.graph.specs.Writers.{writes_level, first_block}
use Rattle.graph_check.proofs.writers.Writers.are_all.Goals as goal

pub returns : goal.returns
returns c =
    let w = c.args.self.now in
    let n = length w.graph.now.blocks in
    let first = λ (d : ℕ). first_block (writes_level d) w.graph.now in
    let levels : c.are_below.result ≡ list_all (λ d. ltb (first d) n) (range_with_len 1 (length w.levels)) =
    c.are_below.ensures
    ∙ ap (λ (xs : List ℕ). list_all (λ k. ltb k c.len-blocks.result) xs) (c.as_slice-levels.ensures ∙ c.requires.levels)
    ∙ list_all-map (λ k. ltb k c.len-blocks.result) first (range_with_len 1 (length w.levels))
    ∙ ap (λ (m : ℕ). list_all (λ d. ltb (first d) m) (range_with_len 1 (length w.levels))) c.len-blocks.ensures in
    rw (levels, c.len-blocks.ensures, c.requires.values) refl
