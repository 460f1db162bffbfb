use Rattle.std.proofs.Common.{◌≡◌, ◌∷◌, ◌++◌, drop, map}
use Rattle.stream_model.specs.declared.labels.Attr.TheVariants.{Coordinate, Rank}
use Rattle.custard_lower.specs.Nests.{product_tree_label}
use Rattle.custard_lower.proofs.nests.head_labels.Given as goal

abbrev pub invariant-loop-f : goal.invariant-loop-f
invariant-loop-f l =
    l.labels.items ++ map (λ f. product_tree_label l.trees l.level l.factors (Rank f)) (drop l.f-index l.factors)
    ≡ product_tree_label l.trees l.level l.factors Coordinate ∷ map (λ f. product_tree_label l.trees l.level l.factors (Rank f)) l.factors
