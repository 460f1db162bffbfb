-- The trees of several terms together: joins, their sides, and the prefixes of a side beneath a join.
use Rattle.std.specs.Prelude.{ℕ, suc, ◌-◌, ◌%◌, ◌^◌, Bool, cond, List, take, Some, None}
use Rattle.std.specs.List.{list_any}
use mathlib.Core.List.{map}
use Rattle.stream_tokens.specs.Nest.{Leaf}
use Rattle.stream_model.specs.declared.labels.Side.{Side}
use Rattle.stream_model.specs.declared.labels.Side.TheVariants.{Left, Right}
use Rattle.stream_model.specs.Grow.{from_level}
use Rattle.stream_model.specs.Terms.{Summand, summand_at}
use Rattle.stream_model.specs.Trees.{sum_there, in_term, value_term}

-- a tree with values: which prefixes it has, and the value of each full one
pub record Part : Type 0 where
  pub has : List ℕ → Bool
  pub value : List ℕ → Leaf

abbrev pub negated : Leaf → Leaf
negated None = None
negated (Some n) = Some ((2 ^ 64 - n) % 2 ^ 64)

abbrev pub signed : Summand → List ℕ → Leaf
signed s p = cond s.minus (negated (value_term s.term p)) (value_term s.term p)

-- the union of the trees of some terms, with the sums of their values
abbrev pub join_of : List Summand → Part
join_of ss = record {
  has = λ p. list_any (λ s. in_term s.term p) ss;
  value = λ p. sum_there (map (λ s. signed s p) ss);
}

-- the terms up to number last
abbrev pub join_upto : List Summand → ℕ → Part
join_upto ss last = join_of (take (suc last) ss)

-- the sides of this join: the terms before last, and term last as if it were added
abbrev pub side_part : List Summand → ℕ → Side → Part
side_part ss last Left = join_of (take last ss)
side_part ss last Right = let t = (summand_at ss last).term in record { has = in_term t; value = value_term t }

-- joined prefixes shorter than d, and those of length d that the side has
abbrev pub in_beside : List Summand → ℕ → Side → ℕ → List ℕ → Bool
in_beside ss last side d p = from_level d (join_upto ss last).has (side_part ss last side).has p
