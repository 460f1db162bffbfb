-- Values added from the left, as they are taken, make the sum of those there are.
use Rattle.std.proofs.Common.{◌≡◌, List, [], ◌∷◌, None, sym, ◌∙◌}
use Rattle.stream_tokens.specs.Nest.{Leaf}
use Rattle.block_core.specs.Arithmetic.{combined_leaf, Plus, sum_leaves}
use Rattle.block_core.proofs.Sums.{plus-nothing, plus-assoc}

-- the sum so far, once these are added too
abbrev pub added : Leaf → List Leaf → Leaf
added sum [] = sum
added sum (v ∷ vs) = added (combined_leaf Plus sum v) vs

added-plus : (sum : Leaf) (vs : List Leaf) → added sum vs ≡ combined_leaf Plus sum (sum_leaves vs)
added-plus sum [] = sym (plus-nothing sum)
added-plus sum (v ∷ vs) = added-plus (combined_leaf Plus sum v) vs ∙ plus-assoc sum v (sum_leaves vs)

pub added-sums : (vs : List Leaf) → added None vs ≡ sum_leaves vs
added-sums vs = added-plus None vs
