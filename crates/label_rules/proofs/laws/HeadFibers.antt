-- The fibers of heads beneath one list of fibers: what the two sides of a merge owe.
use Rattle.std.specs.Prelude.{◌≡◌, ℕ, List, [], ◌∷◌, ◌++◌, length, refl}
use mathlib.Core.List.{map}
use Rattle.stream_tokens.specs.Nest.{Fiber, spread}
use Rattle.stream_tokens.specs.Shapes.{beneath_by, under, Each}
use Rattle.stream_tokens.proofs.Algebra.{EachToken-under}
use Rattle.block_core.specs.Ports.{Streams, AllStreams}
use Rattle.block_core.specs.Merge.{Head, Ascends}
use Rattle.block_core.proofs.Given.{Level, SideAscends}
use Rattle.block_core.proofs.MergeReadings.{Wide}
use Rattle.stream_model.proofs.Grown.{EachToken-always}

-- ---- both sides close alike

level_both : (a b c d : List (Fiber Head)) → Level a b → Level c d → Level (a ++ c) (b ++ d)
level_both [] [] c d h k = k
level_both [] (y ∷ b) c d h k = absurd h
level_both (x ∷ a) [] c d h k = absurd h
level_both (x ∷ a) (y ∷ b) c d h k = (h.0, level_both a b c d h.1 k)

level_spread : {A : Type 0} (f g : A → List Head) (x : A) (xs : List A) (n : ℕ)
    → Level (spread (f x) (map f xs) n) (spread (g x) (map g xs) n)
level_spread f g x [] n = (refl, tt)
level_spread f g x (y ∷ ys) n = (refl, level_spread f g y ys n)

level_beneath : {A : Type 0} (f g : A → List Head) (x : Fiber A) → Level (beneath_by f x) (beneath_by g x)
level_beneath f g ([], n) = (refl, tt)
level_beneath f g ((x ∷ xs), n) = level_spread f g x xs n

-- what lies beneath one list of fibers closes alike
pub level-under : {A : Type 0} (f g : A → List Head) (fs : List (Fiber A)) → Level (under f fs) (under g fs)
level-under f g [] = tt
level-under f g (x ∷ fs) =
    level_both (beneath_by f x) (beneath_by g x) (under f fs) (under g fs) (level_beneath f g x) (level-under f g fs)

-- ---- each fiber ascends

ascend_both : (a b : List (Fiber Head)) → SideAscends a → SideAscends b → SideAscends (a ++ b)
ascend_both [] b h k = k
ascend_both (x ∷ a) b h k = (h.0, ascend_both a b h.1 k)

ascend_spread : {A : Type 0} (f : A → List Head) → ((x : A) → Ascends (f x)) → (x : A) (xs : List A) (n : ℕ)
    → SideAscends (spread (f x) (map f xs) n)
ascend_spread f h x [] n = (h x, tt)
ascend_spread f h x (y ∷ ys) n = (h x, ascend_spread f h y ys n)

ascend_beneath : {A : Type 0} (f : A → List Head) → ((x : A) → Ascends (f x)) → (x : Fiber A) → SideAscends (beneath_by f x)
ascend_beneath f h ([], n) = (tt, tt)
ascend_beneath f h ((x ∷ xs), n) = ascend_spread f h x xs n

-- where the heads beneath each element ascend
pub ascends-under : {A : Type 0} (f : A → List Head) → ((x : A) → Ascends (f x)) → (fs : List (Fiber A))
    → SideAscends (under f fs)
ascends-under f h [] = tt
ascends-under f h (x ∷ fs) = ascend_both (beneath_by f x) (under f fs) (ascend_beneath f h x) (ascends-under f h fs)

-- ---- payloads and ports

-- where each head beneath each element has w payloads
pub wide-under : {A : Type 0} (w : ℕ) (f : A → List Head) → ((x : A) → Each (λ h. length h.1 ≡ w) (f x)) → (fs : List (Fiber A))
    → Wide w (under f fs)
wide-under {A = A} w f h fs =
    EachToken-under (λ (x : A). Unit {0}) (λ h. length h.1 ≡ w) f (λ x e. h x) fs
    (EachToken-always (λ (x : A). Unit {0}) (λ x. tt) fs)

-- the streams of both of two lists
pub both-streams : (ss ts : Streams) → AllStreams ss → AllStreams ts → AllStreams (ss ++ ts)
both-streams [] ts h k = k
both-streams (s ∷ ss) ts h k = (h.0, both-streams ss ts h.1 k)
