-- The trees that the labels of a draft name.
use Rattle.std.specs.Prelude.{ℕ, cond, eqb}
use Rattle.stream_model.specs.declared.labels.Tree.{Tree}
use Rattle.stream_model.specs.declared.labels.Tree.TheVariants.{Product, Reduced, Across, Under, UnderReduced, UnderJoined}
use Rattle.custard_lower.specs.declared.trees.TermTrees.{TermTrees}
use Rattle.custard_lower.specs.declared.trees.TermTrees.TheVariants.{Own, Shared}
use Rattle.custard_lower.specs.declared.trees.PrunedTrees.{PrunedTrees}
use Rattle.custard_lower.specs.declared.trees.PrunedTrees.TheVariants.{OfTerm, OfAll}

-- no tree is deeper than 8
abbrev pub unpruned : ℕ
unpruned = 9

-- ---- the trees of a term

-- of its loops down to a level, where the accesses of a mask are asked
abbrev pub product_tree : TermTrees → ℕ → ℕ → Tree
product_tree (Own term) level mask = Product term level mask
product_tree (Shared term last levels) level mask = Under term level mask

-- of all its loops: where these are the shared levels alone, what is told of the term stands beside what all terms have
abbrev pub bottom_tree : TermTrees → ℕ → ℕ → Tree
bottom_tree (Own term) loops mask = Product term loops mask
bottom_tree (Shared term last levels) loops mask = cond (eqb loops levels) (Across last term levels) (Under term loops mask)

-- without so many loops
abbrev pub reduced_tree : TermTrees → ℕ → ℕ → Tree
reduced_tree (Own term) gone depth = Reduced term gone unpruned depth
reduced_tree (Shared term last levels) gone depth = UnderReduced term gone depth

-- ---- the trees from which prefixes are left out that have no value

-- from length `prune` on
abbrev pub pruned_tree : PrunedTrees → ℕ → ℕ → Tree
pruned_tree (OfTerm term gone) prune depth = Reduced term gone prune depth
pruned_tree (OfAll last) prune depth = UnderJoined last prune depth
