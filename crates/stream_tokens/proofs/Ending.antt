-- The stream of a tree ends with its one `Done`, and its stops are below its depth.
use Rattle.std.specs.Prelude.{◌≡◌, ◌<◌, ◌≤◌, ℕ, zero, suc, ◌+◌, List, [], ◌∷◌, ◌++◌, Some, None, refl}
use Rattle.std.specs.List.{flat_map}
use mathlib.Core.List.{map}
use Rattle.std.proofs.Common.{arith, sym, subst, append_assoc}
use Rattle.stream_tokens.specs.declared.Token.{Token}
use Rattle.stream_tokens.specs.declared.Token.TheVariants.{Item, Empty, Stop, Done}
use Rattle.stream_tokens.specs.Nest.{Nest, Leaf, leaf, between, joined_bodies, body, stream_end, stream, IsStream}

-- each stop is below the limit, and Done is the last token and no other
abbrev pub EndsWithin : ℕ → List Token → Type 0
EndsWithin limit [] = ⊥
EndsWithin limit (Item x ∷ s) = EndsWithin limit s
EndsWithin limit (Empty ∷ s) = EndsWithin limit s
EndsWithin limit (Stop n ∷ s) = (n < limit) × EndsWithin limit s
EndsWithin limit (Done ∷ s) = s ≡ []

-- tokens that may stand before any such ending
abbrev StandsBefore : ℕ → List Token → Type 0
StandsBefore limit s = (rest : List Token) → EndsWithin limit rest → EndsWithin limit (s ++ rest)

before-both : (limit : ℕ) (a b : List Token) → StandsBefore limit a → StandsBefore limit b → StandsBefore limit (a ++ b)
before-both limit a b h k rest e = subst (λ (x : List Token). EndsWithin limit x) (sym (append_assoc a b rest)) (h (b ++ rest) (k rest e))

before-all : {A : Type 0} (limit : ℕ) (b : A → List Token) → ((x : A) → StandsBefore limit (b x)) → (xs : List A) → StandsBefore limit (flat_map b xs)
before-all limit b h [] rest e = e
before-all limit b h (x ∷ xs) rest e = before-both limit (b x) (flat_map b xs) (h x) (before-all limit b h xs) rest e

before-between : {A : Type 0} (limit k : ℕ) (b : A → List Token) → k < limit → ((x : A) → StandsBefore limit (b x))
    → (xs : List A) → StandsBefore limit (between (Stop k) (map b xs))
before-between limit k b below h [] rest e = e
before-between limit k b below h (x ∷ []) rest e = h x rest e
before-between limit k b below h (x ∷ y ∷ xs) rest e =
    before-both limit (b x) (Stop k ∷ between (Stop k) (map b (y ∷ xs))) (h x)
    (λ r f. (below, before-between limit k b below h (y ∷ xs) r f)) rest e

before-joined : {A : Type 0} (limit k : ℕ) (b : A → List Token) → k ≤ limit → ((x : A) → StandsBefore limit (b x))
    → (xs : List A) → StandsBefore limit (joined_bodies k b xs)
before-joined limit zero b below h xs = before-all limit b h xs
before-joined limit (suc k) b below h xs = before-between limit k b (omega (arith, below)) h xs

before-body : {A : Type 0} (limit d k : ℕ) (b : A → List Token) → d + k ≤ limit → ((x : A) → StandsBefore limit (b x))
    → (t : Nest A d) → StandsBefore limit (body d k b t)
before-body limit zero k b below h t = h t
before-body {A = A} limit (suc d) k b below h t =
    before-body {A = List A} limit d (suc k) (joined_bodies k b) (omega (arith, below)) (before-joined limit k b (omega (arith, below)) h) t

before-leaf : (limit : ℕ) (o : Leaf) → StandsBefore limit (leaf o ∷ [])
before-leaf limit None rest e = e
before-leaf limit (Some n) rest e = e

ends-end : (limit d : ℕ) → d ≤ limit → EndsWithin limit (stream_end d)
ends-end limit zero below = refl
ends-end limit (suc d) below = (omega (arith, below), refl)

pub stream-ends : (d : ℕ) (t : Nest Leaf d) → d ≤ 200 → EndsWithin 200 (stream d t)
stream-ends d t below =
    before-body {A = Leaf} 200 d 0 (λ o. leaf o ∷ []) (omega (arith, below)) (before-leaf 200) t (stream_end d) (ends-end 200 d below)

pub IsStream-ends : (s : List Token) → IsStream s → EndsWithin 200 s
IsStream-ends s h = subst (λ (x : List Token). EndsWithin 200 x) (sym h.3) (stream-ends h.0 h.2 h.1)
