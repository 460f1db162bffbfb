-- Which writers a graph has too many of, and which it lacks, where the result has r levels.
use Rattle.std.specs.Prelude.{ℕ, Bool, true, ◌&&◌, length, ltb, leb}
use Rattle.std.specs.List.{list_all, range_with_len}
use Rattle.graph.specs.declared.graphs.Kind.{Kind}
use Rattle.graph.specs.declared.graphs.Kind.TheVariants.{WriteLevel, WriteValue}
use Rattle.graph.specs.declared.graphs.Graph.{Graph}
use Rattle.graph.specs.Writers.{writes_level, writes_values, first_block}

-- A block of this kind at this place is no writer, or writes a level of the result or its values, and is the first to do so.
abbrev pub writes_first : ℕ → Graph → ℕ → Kind → Bool
writes_first r g b (WriteLevel d) = (ltb 0 d && leb d r) && leb b (first_block (writes_level d) g)
writes_first r g b WriteValue = leb b (first_block writes_values g)
writes_first r g b other = true

-- some block is of such a kind
abbrev pub is_written : (Kind → Bool) → Graph → Bool
is_written test g = ltb (first_block test g) (length g.blocks)

-- each level and the values are written
abbrev pub all_written : ℕ → Graph → Bool
all_written r g = list_all (λ d. is_written (writes_level d) g) (range_with_len 1 r) && is_written writes_values g
