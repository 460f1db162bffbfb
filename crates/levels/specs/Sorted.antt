-- Lists in which each item is related to those after it.
use Rattle.std.specs.Prelude.{List, [], ◌∷◌}
use Rattle.sam_base.specs.Each.{Each}

abbrev pub Sorted : {A : Type 0} → (A → A → Type 0) → List A → Type 0
Sorted R [] = Unit {0}
Sorted R (x ∷ xs) = Each (R x) xs × Sorted R xs
