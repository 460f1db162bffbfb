-- What is read of a stored tensor by ranks: the children of each stored prefix, and the values. Levels count from 1.
use Rattle.std.specs.Prelude.{ℕ, zero, suc, List, [], ◌∷◌, ◌++◌, length, slice_index}
use Rattle.std.specs.List.{filter}
use mathlib.Core.List.{map}
use Rattle.sam_model.specs.Lists.{below}
use Rattle.sam_model.specs.Tensors.{Stored, is_stored, value_at, stored_prefixes, rank_of}

-- the coordinates that make a longer stored prefix of p, ascending
abbrev pub next_coordinates : Stored → List ℕ → List ℕ
next_coordinates a p = filter (λ c. is_stored a (p ++ c ∷ [])) (below (slice_index a.sizes (length p)))

-- the children of p: each such coordinate, with the rank of the longer prefix
abbrev pub children_under : Stored → List ℕ → List (ℕ × ℕ)
children_under a p = map (λ c. (c, rank_of a (p ++ c ∷ []))) (next_coordinates a p)

-- the children at a level: those of each stored prefix that is one shorter, by its rank
abbrev pub children_of : Stored → ℕ → List (List (ℕ × ℕ))
children_of a zero = []
children_of a (suc n) = map (children_under a) (stored_prefixes a n)

-- the value at each full stored prefix, by its rank
abbrev pub values_of : Stored → List ℕ
values_of a = map (value_at a) (stored_prefixes a (length a.sizes))

-- a tensor by ranks: how many prefixes of each length are stored, from length 0 on, the children at each level, from
-- level 1 on, and the values
pub record Ranked : Type 0 where
  pub counts : List ℕ
  pub children : List (List (List (ℕ × ℕ)))
  pub values : List ℕ

abbrev pub ranked : Stored → Ranked
ranked a = record {
  counts = map (λ k. length (stored_prefixes a k)) (below (suc (length a.sizes)));
  children = map (λ k. children_of a (suc k)) (below (length a.sizes));
  values = values_of a;
}
