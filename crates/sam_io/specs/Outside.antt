-- What is told of files and of sinks, and how a call changes it.
use Rattle.std.specs.Prelude.{◌≡◌, ℕ, ◌+◌, ◌<◌, ◌≤◌, ◌⊎◌, max, List, [], ◌∷◌, ◌++◌, length, take, drop, Option, Some, None, Result, Ok, Err, IsSome, IsSomeAnd, IfSome, nat_eq, if◌then◌else◌}
use Rattle.std.specs.Cmp.Lexicographic.{pointwise}

-- what is told of the files: names with their bytes; where a name stands twice, its first pair counts
abbrev pub Told : Type 0
Told = List (List ℕ × List ℕ)

-- the bytes of a name
abbrev pub bytes_of : Told → List ℕ → Option (List ℕ)
bytes_of [] name = None
bytes_of (file ∷ rest) name = if pointwise nat_eq file.0 name then Some file.1 else bytes_of rest name

-- no told map has the name
abbrev pub Lacks : Option Told → List ℕ → Type 0
Lacks told name = (m : Told) → told ≡ Some m → bytes_of m name ≡ None

-- no told map lacks the name
abbrev pub NoneLacks : Option Told → List ℕ → Type 0
NoneLacks told name = (m : Told) → told ≡ Some m → IsSome (bytes_of m name)

-- these are the bytes that are told of the name
abbrev pub Tells : Option Told → List ℕ → List ℕ → Type 0
Tells told name text = (m : Told) → told ≡ Some m → bytes_of m name ≡ Some text

-- the begun file's name, and how many of its bytes were given
abbrev pub Place : Type 0
Place = Option (List ℕ × ℕ)

-- n more bytes were given, or none
abbrev pub advanced : {E : Type 0} → Place → Result ℕ E → Place
advanced None result = None
advanced (Some place) (Ok n) = Some (place.0, place.1 + n)
advanced (Some place) (Err e) = Some place

-- buf begins with the n bytes from this place on, and n is 0 only at the end
pub record NextBytes (bytes : List ℕ) (at n : ℕ) (buf : List ℕ) : Type 0 where
  pub same : take n buf ≡ take n (drop at bytes)
  pub inside : at + n ≤ max at (length bytes)
  pub ends : n ≡ 0 → length bytes ≤ at

-- buf begins with the n next bytes of the begun file
abbrev pub GivesNext : Option Told → Place → ℕ → List ℕ → Type 0
GivesNext told place n buf =
    (m : Told) (name : List ℕ) (at : ℕ) →
    told ≡ Some m → place ≡ Some (name, at) → IfSome (bytes_of m name) (λ bytes. NextBytes bytes at n buf)

-- a list that may not be told has grown by these bytes
abbrev pub grown : Option (List ℕ) → List ℕ → Option (List ℕ)
grown None more = None
grown (Some written) more = Some (written ++ more)

-- of a piece, what a write took
abbrev pub taken : {E : Type 0} → List ℕ → Result ℕ E → List ℕ
taken piece (Ok n) = take n piece
taken piece (Err e) = []

-- it has grown by a prefix of these bytes
abbrev pub GrewByPart : Option (List ℕ) → Option (List ℕ) → List ℕ → Type 0
GrewByPart before now text = (n : ℕ) × (now ≡ grown before (take n text))

-- a told file of this name is longer than that
abbrev pub LongerThan : Option Told → List ℕ → ℕ → Type 0
LongerThan told name most = (m : Told) → told ≡ Some m → IsSomeAnd (bytes_of m name) (λ bytes. most < length bytes)

-- the text is the beginning of what is told of the name
abbrev pub BeginsTold : Option Told → List ℕ → List ℕ → Type 0
BeginsTold told name text =
    (m : Told) → told ≡ Some m → IsSomeAnd (bytes_of m name) (λ bytes. text ≡ take (length text) bytes)

-- no file is begun, or the named one
abbrev pub IsAt : List ℕ → Place → Type 0
IsAt name place = (place ≡ None) ⊎ ((given : ℕ) × (place ≡ Some (name, given)))
