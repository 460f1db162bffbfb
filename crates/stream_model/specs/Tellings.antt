-- What is told of prefixes, level by level, as streams.
use Rattle.std.specs.Prelude.{ℕ, Bool, List, Some}
use Rattle.stream_tokens.specs.declared.Token.{Token}
use Rattle.stream_tokens.specs.Nest.{Leaf, leaf, Fiber}
use Rattle.stream_tokens.specs.Flat.{flat}
use Rattle.stream_tokens.specs.Shapes.{under}
use Rattle.stream_model.specs.Grow.{longer}
use Rattle.stream_model.specs.Labels.{last}

abbrev pub Prefixes : Type 0
Prefixes = List (Fiber (List ℕ))

-- what is told of a prefix
abbrev pub Telling : Type 0
Telling = List ℕ → Leaf

-- its last coordinate
abbrev pub coordinate : Telling
coordinate p = Some (last p)

-- the stream of what is told of these prefixes
abbrev pub told : Telling → Prefixes → List Token
told x fs = flat (λ p. leaf (x p)) fs

-- the prefixes one longer that pass a test
abbrev pub deeper : (List ℕ → Bool) → List ℕ → Prefixes → Prefixes
deeper ok sizes fs = under (longer ok sizes) fs
