-- Sets of names.
use Rattle.std.specs.Prelude.{ℕ, List, Bool}
use Rattle.std.specs.List.{list_any}
use Rattle.std.specs.Str.{bytes_eq}
use Rattle.std.specs.HashSet.{HashSet}

-- a set of values with bytes has some bytes
abbrev pub has_name : {V S : Type 0} → (V → List ℕ) → HashSet V S → List ℕ → Bool
has_name bytes names n = list_any (λ v. bytes_eq n (bytes v)) names.keys
