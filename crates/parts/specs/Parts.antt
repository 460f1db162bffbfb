-- Parts of commands.
use Rattle.std.specs.Prelude.{◌≡◌, ℕ, ◌≤◌, ◌⊎◌, List, [], ◌∷◌, length, Option, Some, None, Result, Ok, Err}
use Rattle.sam_base.specs.declared.faults.Fault.{Fault}
use Rattle.sam_base.specs.declared.faults.Fault.TheVariants.{Missing, ReadFault}
use Rattle.sam_base.specs.declared.TheConstants.{FILE_MOST}
use Rattle.sam_io.specs.Outside.{Told, Lacks, Tells, LongerThan}

-- when a part gives each of its answers; want of memory may come at any time, and no part speaks of it
abbrev pub Part : Type 0 → Type 1
Part A = Option Told → Result A Fault → Type 0

-- a part that looks at no file
abbrev pub gives : {A : Type 0} → Result A Fault → Part A
gives r told s = s ≡ r

-- the one, and where that is `Ok` the other
abbrev pub followed : {A B : Type 0} → Part A → (A → Part B) → Part B
followed {A = A} p q told (Ok b) = (a : A) × p told (Ok a) × q a told (Ok b)
followed {A = A} p q told (Err fault) = p told (Err fault) ⊎ ((a : A) × p told (Ok a) × q a told (Err fault))

-- the part of each item, in order
abbrev pub each_part : {A B : Type 0} → (A → Part B) → List A → Part (List B)
each_part f [] = gives (Ok [])
each_part f (x ∷ xs) = followed (f x) (λ y. followed (each_part f xs) (λ ys. gives (Ok (y ∷ ys))))

-- a file's bytes, or none where there are more than a file may have
abbrev pub reads : List ℕ → Part (Option (List ℕ))
reads name told (Ok None) = LongerThan told name FILE_MOST
reads name told (Ok (Some bytes)) = Tells told name bytes × (length bytes ≤ FILE_MOST)
reads name told (Err (Missing missed)) = (missed ≡ name) × Lacks told name
reads name told (Err (ReadFault failed)) = failed ≡ name
reads name told (Err _) = ⊥
