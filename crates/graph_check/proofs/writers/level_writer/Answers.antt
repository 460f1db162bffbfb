use Rattle.std.proofs.Common.{◌∙◌, List, ap, rules}
use borrow.Author.Tests.{tests}
use Rattle.std.specs.List.{position_or_len}
use Rattle.std.proofs.lemmas.Iterator.{YieldsList-from_slice}
use Rattle.std.proofs.lemmas.Iterator.Search.{position_from_yields_List}
use Rattle.graph.specs.declared.graphs.Block.{Block}
use Rattle.graph.specs.Writers.{writes_level}
use Rattle.graph_check.proofs.Positions.{or-length}
use Rattle.graph_check.proofs.writers.level_writer.Goals as goal

pub returns : goal.returns
returns c =
    let found = position_from_yields_List (λ (b : Block). writes_level c.args.level b.kind) _ _ c.position.result c.position.ensures.ran
    (YieldsList-from_slice c.as_slice-blocks.result.now cc) (λ x b q k. search (rules, tests)) in
    c.unwrap_or.ensures ∙ or-length (λ (b : Block). writes_level c.args.level b.kind) c.as_slice-blocks.result.now c.position.result found
    ∙ ap (λ (xs : List Block). position_or_len (λ b. writes_level c.args.level b.kind) xs) c.as_slice-blocks.ensures
