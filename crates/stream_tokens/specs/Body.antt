-- The tokens of a body, and of a whole stream by its two last ones.
use Rattle.std.specs.Prelude.{◌≡◌, ℕ, zero, suc, Bool, true, false, List, [], nat_lt}
use Rattle.std.specs.List.{list_all}
use Rattle.stream_tokens.specs.declared.Token.{Token}
use Rattle.stream_tokens.specs.declared.Token.TheVariants.{Item, Empty, Stop, Done}
use Rattle.stream_tokens.specs.Nest.{Leaf, leaf}

-- a leaf, or a stop below the level
abbrev pub is_inside : ℕ → Token → Bool
is_inside level (Item x) = true
is_inside level Empty = true
is_inside level (Stop n) = nat_lt n level
is_inside level Done = false

-- The last token but Done of a stream of this depth, and what stands before it: a leaf alone, or the stop of the depth
-- after any leaves and stops below it.
abbrev pub EndsAtDepth : ℕ → Token → List Token → Type 0
EndsAtDepth zero end body = (o : Leaf) × (end ≡ leaf o) × (body ≡ [])
EndsAtDepth (suc level) end body = (end ≡ Stop level) × (list_all (is_inside level) body ≡ true)
