-- The three operations on values modulo 2^64, where a value may be absent.
use Rattle.std.specs.Prelude.{◌+◌, ◌-◌, ◌*◌, ◌%◌, ◌^◌, List, [], ◌∷◌, Some, None}
use Rattle.stream_tokens.specs.Nest.{Leaf}

pub data Operation : Type 0 where
  Times : Operation
  Plus : Operation
  Minus : Operation

-- a product needs both; a sum is the other where one is absent
abbrev pub combined_leaf : Operation → Leaf → Leaf → Leaf
combined_leaf Times None b = None
combined_leaf Times (Some a) None = None
combined_leaf Times (Some a) (Some b) = Some ((a * b) % 2 ^ 64)
combined_leaf Plus None b = b
combined_leaf Plus (Some a) None = Some a
combined_leaf Plus (Some a) (Some b) = Some ((a + b) % 2 ^ 64)
combined_leaf Minus None None = None
combined_leaf Minus None (Some b) = Some ((2 ^ 64 - b) % 2 ^ 64)
combined_leaf Minus (Some a) None = Some a
combined_leaf Minus (Some a) (Some b) = Some ((a + (2 ^ 64 - b)) % 2 ^ 64)

-- the sum of those there are
abbrev pub sum_leaves : List Leaf → Leaf
sum_leaves [] = None
sum_leaves (v ∷ vs) = combined_leaf Plus v (sum_leaves vs)
