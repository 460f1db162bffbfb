-- Fibers as tokens, and the fibers of tokens.
use Rattle.std.specs.Prelude.{ℕ, zero, suc, List, [], ◌∷◌, Some, None}
use Rattle.stream_tokens.specs.Nest.{Fiber, Leaf}
use Rattle.stream_tokens.specs.declared.Token.{Token}
use Rattle.stream_tokens.specs.declared.Token.TheVariants.{Item, Empty, Stop, Done}

-- the tokens of a fiber's elements, before what follows
abbrev pub fiber_tokens : {A : Type 0} → (A → Token) → List A → List Token → List Token
fiber_tokens t [] rest = rest
fiber_tokens t (x ∷ xs) rest = t x ∷ fiber_tokens t xs rest

-- the stop of a close number, before what follows
abbrev pub closed : ℕ → List Token → List Token
closed zero rest = rest
closed (suc k) rest = Stop k ∷ rest

-- the stream of a list of fibers, whose elements are written by t
abbrev pub flat : {A : Type 0} → (A → Token) → List (Fiber A) → List Token
flat t [] = Done ∷ []
flat t (f ∷ fs) = fiber_tokens t f.0 (closed f.1 (flat t fs))

-- a leaf before the fibers of the rest
abbrev pub put_leaf : Leaf → List (Fiber Leaf) → List (Fiber Leaf)
put_leaf o [] = ((o ∷ []), 0) ∷ []
put_leaf o (f ∷ fs) = ((o ∷ f.0), f.1) ∷ fs

-- the fibers of a stream
abbrev pub fibers_of : List Token → List (Fiber Leaf)
fibers_of [] = []
fibers_of (Item n ∷ ts) = put_leaf (Some n) (fibers_of ts)
fibers_of (Empty ∷ ts) = put_leaf None (fibers_of ts)
fibers_of (Stop k ∷ ts) = ([], suc k) ∷ fibers_of ts
fibers_of (Done ∷ ts) = []
