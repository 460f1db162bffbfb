-- Trees of a depth, their streams, and their fibers.
use Rattle.std.specs.Prelude.{◌≡◌, ◌≤◌, ℕ, zero, suc, List, [], ◌∷◌, ◌++◌, Option, Some, None}
use Rattle.std.specs.List.{flat_map}
use mathlib.Core.List.{map}
use Rattle.stream_tokens.specs.declared.Token.{Token}
use Rattle.stream_tokens.specs.declared.Token.TheVariants.{Item, Empty, Stop, Done}

-- a tree of depth d whose leaves are of A: a tree of depth d + 1 is a tree of depth d of lists
abbrev pub Nest : Type 0 → ℕ → Type 0
Nest A zero = A
Nest A (suc d) = Nest (List A) d

-- each leaf changed
abbrev pub nmap : {A B : Type 0} (d : ℕ) → (A → B) → Nest A d → Nest B d
nmap zero f t = f t
nmap {A = A} {B = B} (suc d) f t = nmap {A = List A} {B = List B} d (map f) t

-- what a token holds: a number, or nothing
abbrev pub Leaf : Type 0
Leaf = Option ℕ

abbrev pub leaf : Leaf → Token
leaf None = Empty
leaf (Some n) = Item n

-- the leaf of a token, where a stop and the end hold nothing
abbrev pub leaf_of : Token → Leaf
leaf_of (Item n) = Some n
leaf_of Empty = None
leaf_of (Stop n) = None
leaf_of Done = None

-- the bodies of neighbours, with a stop between them
abbrev pub between : Token → List (List Token) → List Token
between s [] = []
between s (x ∷ []) = x
between s (x ∷ y ∷ xs) = x ++ (s ∷ between s (y ∷ xs))

-- the body of a list of trees of depth k, which are written by b
abbrev pub joined_bodies : {A : Type 0} → ℕ → (A → List Token) → List A → List Token
joined_bodies zero b ts = flat_map b ts
joined_bodies (suc k) b ts = between (Stop k) (map b ts)

-- the body of a tree of depth d, whose leaves are trees of depth k that are written by b
abbrev pub body : {A : Type 0} → (d k : ℕ) → (A → List Token) → Nest A d → List Token
body zero k b t = b t
body {A = A} (suc d) k b t = body {A = List A} d (suc k) (joined_bodies k b) t

abbrev pub stream_end : ℕ → List Token
stream_end zero = Done ∷ []
stream_end (suc d) = Stop d ∷ Done ∷ []

-- the stream of a tree of depth d
abbrev pub stream : (d : ℕ) → Nest Leaf d → List Token
stream d t = body d 0 (λ o. leaf o ∷ []) t ++ stream_end d

-- a list of tokens is the stream of some tree of depth d
abbrev pub HasDepth : ℕ → List Token → Type 0
HasDepth d s = (t : Nest Leaf d) × (s ≡ stream d t)

-- a list of tokens is the stream of some tree of some depth up to 200
abbrev pub IsStream : List Token → Type 0
IsStream s = (d : ℕ) × (d ≤ 200) × (t : Nest Leaf d) × (s ≡ stream d t)

-- A fiber has its leaves and how many lists it closes: one that closes k + 1 lists ends with the stop k, and one that
-- closes none, as in a stream of depth 0, with no stop.
abbrev pub Fiber : Type 0 → Type 0
Fiber A = List A × ℕ

-- what lies beneath the tokens of one fiber, where its tokens are lists
abbrev pub spread : {A : Type 0} → List A → List (List A) → ℕ → List (Fiber A)
spread x [] n = (x, suc n) ∷ []
spread x (y ∷ ys) n = (x, 1) ∷ spread y ys n

abbrev pub beneath : {A : Type 0} → Fiber (List A) → List (Fiber A)
beneath ([], n) = ([], suc n) ∷ []
beneath ((x ∷ xs), n) = spread x xs n

-- the fibers of a tree
abbrev pub fibers : {A : Type 0} (d : ℕ) → Nest A d → List (Fiber A)
fibers zero t = ((t ∷ []), 0) ∷ []
fibers {A = A} (suc d) t = flat_map beneath (fibers {A = List A} d t)
