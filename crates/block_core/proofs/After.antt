-- What a fiber's lists look like in a stream, after others of the fiber or after none.
use Rattle.std.specs.Prelude.{◌≡◌, ℕ, Bool, true, false, List, [], ◌∷◌, ◌++◌, refl}
use mathlib.Core.List.{map}
use Rattle.std.proofs.Common.{ap}
use Rattle.stream_tokens.specs.declared.Token.{Token}
use Rattle.stream_tokens.specs.declared.Token.TheVariants.{Stop}
use Rattle.stream_tokens.specs.Nest.{Fiber, spread}
use Rattle.stream_tokens.specs.Flat.{fiber_tokens, flat}
use Rattle.stream_tokens.specs.Shapes.{under}

-- the flag says whether others came before; the stop n ends them all
abbrev pub after : {A : Type 0} → (A → Token) → Bool → List (List A) → ℕ → List Token → List Token
after t more [] n rest = Stop n ∷ rest
after t true (x ∷ xs) n rest = Stop 0 ∷ fiber_tokens t x (after t true xs n rest)
after t false (x ∷ xs) n rest = fiber_tokens t x (after t true xs n rest)

after-spread : {A : Type 0} (t : A → Token) (y : List A) (ys : List (List A)) (n : ℕ) (fs : List (Fiber A))
    → fiber_tokens t y (after t true ys n (flat t fs)) ≡ flat t (spread y ys n ++ fs)
after-spread t y [] n fs = refl
after-spread t y (z ∷ zs) n fs = ap (λ (s : List Token). fiber_tokens t y (Stop 0 ∷ s)) (after-spread t z zs n fs)

pub after-under : {A B : Type 0} (t : B → Token) (f : A → List B) (xs : List A) (n : ℕ) (fs : List (Fiber A))
    → after t false (map f xs) n (flat t (under f fs)) ≡ flat t (under f ((xs, n) ∷ fs))
after-under t f [] n fs = refl
after-under t f (x ∷ xs) n fs = after-spread t (f x) (map f xs) n (under f fs)
