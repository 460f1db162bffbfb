-- Trees of several terms whose first levels are shared: a prefix may stand there that a term lacks.
use Rattle.std.specs.Prelude.{ℕ, suc, Bool, cond, List, [], ◌∷◌, length, take, leb}
use Rattle.std.specs.List.{list_any}
use Rattle.sam_model.specs.declared.program.Program.{Program}
use Rattle.sam_model.specs.Lists.{below}
use Rattle.stream_model.specs.Grow.{from_level}
use Rattle.stream_model.specs.Terms.{TermData, Summand, mask_of}
use Rattle.stream_model.specs.Trees.{in_whole, in_product, in_reduced, pruned_from}
use Rattle.stream_model.specs.Joins.{join_upto}

-- how many of these marks there are before the first that is missing
abbrev pub leading_marks : List Bool → ℕ
leading_marks [] = 0
leading_marks (b ∷ marks) = cond b (suc (leading_marks marks)) 0

-- the levels that all terms of a program share: the loops of the left that come before every other
abbrev pub shared_levels : Program → ℕ
shared_levels p = leading_marks (mask_of (below (length p.var_sizes)) p.left)

-- some of these terms has the prefix
abbrev pub in_any : List Summand → List ℕ → Bool
in_any ss p = list_any (λ s. in_whole s.term p) ss

-- the prefixes of the shared levels by one test, and the longer ones by another
abbrev pub below_shared : ℕ → (List ℕ → Bool) → (List ℕ → Bool) → List ℕ → Bool
below_shared h joint own p = cond (leb (length p) h) (joint p) (own p)

-- the terms up to number `upto` at the level, beneath all terms
abbrev pub in_across : List Summand → ℕ → ℕ → List ℕ → Bool
in_across ss upto level p = from_level level (in_any ss) (in_any (take (suc upto) ss)) p

-- one term at the level, beneath the shared prefixes and its own
abbrev pub in_under : ℕ → List Summand → TermData → ℕ → List Bool → List ℕ → Bool
in_under h ss t level mask p = from_level level (below_shared h (in_any ss) (in_whole t)) (in_product t level mask) p

abbrev pub in_under_reduced : ℕ → List Summand → TermData → ℕ → List ℕ → Bool
in_under_reduced h ss t g p = below_shared h (in_any ss) (in_reduced t g) p

-- the shared prefixes, pruned by the values of the join up to term `last`
abbrev pub in_under_joined : List ℕ → List Summand → ℕ → ℕ → List ℕ → Bool
in_under_joined sizes ss last f p = pruned_from (in_any ss) (join_upto ss last).value sizes f p
