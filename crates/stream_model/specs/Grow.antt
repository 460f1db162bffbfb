-- The tree of all prefixes that pass a test: each prefix grows by the coordinates below the size of its level.
use Rattle.std.specs.Prelude.{ℕ, zero, suc, Bool, cond, List, [], ◌∷◌, ◌++◌, length, ltb, slice_index}
use Rattle.std.specs.List.{filter}
use mathlib.Core.List.{map}
use Rattle.sam_model.specs.Lists.{below}
use Rattle.stream_tokens.specs.Nest.{Nest, nmap, Fiber, fibers}

-- the coordinates that may follow p, ascending
abbrev pub next : (List ℕ → Bool) → List ℕ → List ℕ → List ℕ
next ok sizes p = filter (λ c. ok (p ++ c ∷ [])) (below (slice_index sizes (length p)))

-- the prefixes one longer than p
abbrev pub longer : (List ℕ → Bool) → List ℕ → List ℕ → List (List ℕ)
longer ok sizes p = map (λ c. p ++ c ∷ []) (next ok sizes p)

-- the prefixes of length d, as the leaves of a tree of depth d
abbrev pub paths : (List ℕ → Bool) → List ℕ → (d : ℕ) → Nest (List ℕ) d
paths ok sizes zero = []
paths ok sizes (suc d) = nmap {A = List ℕ} {B = List (List ℕ)} d (longer ok sizes) (paths ok sizes d)

-- the same as fibers
abbrev pub path_fibers : (List ℕ → Bool) → List ℕ → ℕ → List (Fiber (List ℕ))
path_fibers ok sizes d = fibers {A = List ℕ} d (paths ok sizes d)

-- prefixes shorter than d by one test, and the others by another
abbrev pub from_level : ℕ → (List ℕ → Bool) → (List ℕ → Bool) → List ℕ → Bool
from_level d above last p = cond (ltb (length p) d) (above p) (last p)
