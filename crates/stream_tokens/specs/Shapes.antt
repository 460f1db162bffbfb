-- What the block functions do to lists of fibers.
use Rattle.std.specs.Prelude.{◌≡◌, ◌⊎◌, ℕ, zero, suc, List, [], ◌∷◌}
use Rattle.std.specs.List.{flat_map}
use mathlib.Core.List.{map}
pub use Rattle.sam_base.specs.Each.{Each}
use Rattle.stream_tokens.specs.Nest.{Fiber, beneath}

-- each fiber changed, its stop kept
abbrev pub on_fiber : {A B : Type 0} → (List A → List B) → Fiber A → Fiber B
on_fiber h (xs, n) = (h xs, n)

abbrev pub on_fibers : {A B : Type 0} → (List A → List B) → List (Fiber A) → List (Fiber B)
on_fibers h fs = map (on_fiber h) fs

-- each token changed, the shape kept
abbrev pub on_tokens : {A B : Type 0} → (A → B) → List (Fiber A) → List (Fiber B)
on_tokens f fs = on_fibers (map f) fs

-- beneath each token t lies the fiber f t
abbrev pub beneath_by : {A B : Type 0} → (A → List B) → Fiber A → List (Fiber B)
beneath_by f (xs, n) = beneath (map f xs, n)

abbrev pub under : {A B : Type 0} → (A → List B) → List (Fiber A) → List (Fiber B)
under f fs = flat_map (beneath_by f) fs

-- fibers with equal stops, pair by pair
abbrev pub both : {A B C : Type 0} → (List A → List B → List C) → List (Fiber A) → List (Fiber B) → List (Fiber C)
both h [] gs = []
both h (f ∷ fs) [] = []
both h (f ∷ fs) (g ∷ gs) = (h f.0 g.0, f.1) ∷ both h fs gs

abbrev pub rest : {A : Type 0} → List A → List A
rest [] = []
rest (x ∷ xs) = xs

-- the inner fiber beside each outer token
abbrev pub beside : {A B : Type 0} → List A → List (Fiber B) → List (A × List B)
beside [] gs = []
beside (a ∷ xs) [] = []
beside (a ∷ xs) (g ∷ gs) = (a, g.0) ∷ beside xs gs

-- the inner fibers after those of one outer fiber
abbrev pub fibers_past : {A B : Type 0} → List A → List (Fiber B) → List (Fiber B)
fibers_past [] gs = rest gs
fibers_past (a ∷ []) gs = rest gs
fibers_past (a ∷ b ∷ xs) gs = fibers_past (b ∷ xs) (rest gs)

-- an inner stream that lies beneath an outer one, beside its tokens
abbrev pub split : {A B : Type 0} → List (Fiber A) → List (Fiber B) → List (Fiber (A × List B))
split [] gs = []
split (f ∷ fs) gs = (beside f.0 gs, f.1) ∷ split fs (fibers_past f.0 gs)

-- cut after each stop above 0: the pieces as fibers of fibers
abbrev pub put_first : {A : Type 0} → List A → List (Fiber (List A)) → List (Fiber (List A))
put_first x [] = []
put_first x ((ys, n) ∷ fs) = ((x ∷ ys), n) ∷ fs

abbrev pub cut : {A : Type 0} → List (Fiber A) → List (Fiber (List A))
cut [] = []
cut ((x, zero) ∷ fs) = ((x ∷ []), 0) ∷ cut fs
cut ((x, suc zero) ∷ fs) = put_first x (cut fs)
cut ((x, suc (suc n)) ∷ fs) = ((x ∷ []), suc n) ∷ cut fs

-- a list of lists, where none is one empty list
abbrev pub at_least_one : {A : Type 0} → List (List A) → List (List A)
at_least_one [] = [] ∷ []
at_least_one (x ∷ xs) = x ∷ xs

-- two lists side by side
abbrev pub pairs : {A B : Type 0} → List A → List B → List (A × B)
pairs [] vs = []
pairs (c ∷ cs) [] = []
pairs (c ∷ cs) (v ∷ vs) = (c, v) ∷ pairs cs vs

-- each fiber closes something, so the depth is 1 or more
abbrev pub Positive : {A : Type 0} → List (Fiber A) → Type 0
Positive [] = Unit {0}
Positive (f ∷ fs) = ((k : ℕ) × (f.1 ≡ suc k)) × Positive fs

-- each fiber closes something, or there is one fiber of one element, which closes nothing
abbrev pub Shaped : {A : Type 0} → List (Fiber A) → Type 0
Shaped {A = A} fs = Positive fs ⊎ ((x : A) × (fs ≡ ((x ∷ []), 0) ∷ []))

abbrev pub EachToken : {A : Type 0} → (A → Type 0) → List (Fiber A) → Type 0
EachToken Q [] = Unit {0}
EachToken Q (f ∷ fs) = Each Q f.0 × EachToken Q fs
