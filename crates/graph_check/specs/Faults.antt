-- Where a graph first fails a rule.
use Rattle.std.specs.Prelude.{ℕ, Bool, ◌&&◌, not, Option, Some, None, if◌then◌else◌, length, ltb, leb}
use Rattle.std.specs.List.{position_or_len}
use mathlib.Core.List.{map}
use Rattle.sam_model.specs.declared.program.Program.{Program}
use Rattle.sam_model.specs.Lists.{below}
use Rattle.stream_model.specs.Labels.{result_sizes}
use Rattle.graph.specs.declared.graphs.Graph.{Graph}
use Rattle.graph.specs.Wiring.{block}
use Rattle.label_rules.specs.Holding.{label_on}
use Rattle.label_rules.specs.Rules.{allowed}
use Rattle.graph_check.specs.Writers.{writes_first, all_written}

-- the smallest number below n that fails a test, n where none does
abbrev pub first_failing : (ℕ → Bool) → ℕ → ℕ
first_failing test n = position_or_len (λ k. not (test k)) (below n)

-- The rule on writers: each level of the result and its values have just one. It fails at the first writer too many, and at
-- the number of blocks where there is none of these, but a writer is missing.
abbrev pub writers_fault : Program → Graph → Option ℕ
writers_fault p g =
    let r = length (result_sizes p) in let b = first_failing (λ b. writes_first r g b (block g b).kind) (length g.blocks) in
    if leb (length g.blocks) b && all_written r g then None else Some b

-- the labels at a block are allowed
abbrev pub labels_allowed : Program → Graph → ℕ → Bool
labels_allowed p g b = allowed p (block g b).kind (map (label_on g) (block g b).ins) (map (label_on g) (block g b).outs)

-- The rule on labels fails at the first block whose labels aren't allowed.
abbrev pub labels_fault : Program → Graph → Option ℕ
labels_fault p g =
    let b = first_failing (labels_allowed p g) (length g.blocks) in if ltb b (length g.blocks) then Some b else None
