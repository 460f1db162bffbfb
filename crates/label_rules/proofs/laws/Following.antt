-- Streams over the prefixes of a tree, and the coordinates that follow each prefix, with what is told of the prefixes that
-- they make.
use Rattle.std.specs.Prelude.{◌≡◌, ℕ, suc, Bool, List, [], ◌∷◌, ◌++◌}
use mathlib.Core.List.{map}
use Rattle.std.proofs.Common.{sym, ◌∙◌, ap, subst}
use Rattle.stream_tokens.specs.declared.Token.TheVariants.{Item}
use Rattle.stream_tokens.specs.Nest.{Leaf, leaf, Fiber, fibers}
use Rattle.stream_tokens.specs.Flat.{flat}
use Rattle.stream_tokens.specs.Shapes.{on_tokens, under, Positive, Shaped}
use Rattle.stream_tokens.proofs.Fibers.{beneath-positive, shaped-fibers}
use Rattle.stream_tokens.proofs.Algebra.{map-same, flat-on_tokens}
use Rattle.stream_model.specs.declared.labels.Attr.TheVariants.{Coordinate, Value}
use Rattle.stream_model.specs.Grow.{next, paths, path_fibers}
use Rattle.stream_model.specs.Labels.{Shape, last, stream_at}
use Rattle.sam_model.proofs.Lists.{map-ext}
use Rattle.stream_model.proofs.Grown.{under-same, tokens-suc}
use Rattle.block_core.specs.Ports.{Streams, AllStreams, first_item, second_leaf}
use Rattle.block_core.specs.Kind.{Kind}
use Rattle.block_core.proofs.Given.{Gives}
use Rattle.stream_model.proofs.Levels.{last-longer, stream-over}

-- ---- the fibers of a tree

-- below the root each fiber closes something
pub paths-positive : (ok : List ℕ → Bool) (sizes : List ℕ) (d : ℕ) → Positive (path_fibers ok sizes (suc d))
paths-positive ok sizes d = beneath-positive (fibers {A = List (List ℕ)} d (paths ok sizes (suc d)))

-- a fiber closes something, or is the root's
pub paths-shaped : (ok : List ℕ → Bool) (sizes : List ℕ) (d : ℕ) → Shaped (path_fibers ok sizes d)
paths-shaped ok sizes d = shaped-fibers {A = List ℕ} d (paths ok sizes d)

-- ---- streams of labels

-- the coordinates of a tree are the last ones of its prefixes
pub coordinates-written : (s : Shape) → stream_at s Coordinate ≡ flat (λ p. Item (last p)) (path_fibers s.ok s.sizes s.depth)
coordinates-written s = stream-over s Coordinate

-- its values are those of its prefixes
pub values-written : (s : Shape) → stream_at s Value ≡ flat (λ p. leaf (s.value p)) (path_fibers s.ok s.sizes s.depth)
values-written s = stream-over s Value

-- ---- what follows a prefix

-- the coordinates that follow p, each with what v tells of the prefix that it makes
abbrev pub followers : {B : Type 0} → (List ℕ → Bool) → List ℕ → (List ℕ → B) → List ℕ → List (ℕ × B)
followers ok sizes v p = map (λ c. (c, v (p ++ c ∷ []))) (next ok sizes p)

-- the last coordinates of the prefixes one longer, with what v tells of these, follow the prefixes
pub followers-beneath : {B : Type 0} (ok : List ℕ → Bool) (sizes : List ℕ) (d : ℕ) (v : List ℕ → B)
    → on_tokens (λ p. (last p, v p)) (path_fibers ok sizes (suc d)) ≡ under (followers ok sizes v) (path_fibers ok sizes d)
followers-beneath {B = B} ok sizes d v =
    tokens-suc ok sizes d (λ p. (last p, v p))
    ∙ under-same (λ p. map (λ c. (last (p ++ c ∷ []), v (p ++ c ∷ []))) (next ok sizes p)) (followers ok sizes v)
    (λ p. map-ext (λ c. (last (p ++ c ∷ []), v (p ++ c ∷ []))) (λ c. (c, v (p ++ c ∷ [])))
    (λ c. ap (λ (x : ℕ). (x, v (p ++ c ∷ []))) (last-longer p c)) (next ok sizes p))
    (path_fibers ok sizes d)

-- the coordinates of a level are those that follow the prefixes above it
pub coordinates-follow : {B : Type 0} (ok : List ℕ → Bool) (sizes : List ℕ) (d : ℕ) (v : List ℕ → B)
    → flat (λ p. Item (last p)) (path_fibers ok sizes (suc d))
    ≡ flat first_item (under (followers ok sizes v) (path_fibers ok sizes d))
coordinates-follow {B = B} ok sizes d v =
    sym (flat-on_tokens (first_item {B = B}) (λ p. (last p, v p)) (path_fibers ok sizes (suc d)))
    ∙ ap (λ (fs : List (Fiber (ℕ × B))). flat first_item fs) (followers-beneath ok sizes d v)

-- and the values of a level are those of the prefixes that they make
pub values-follow : (ok : List ℕ → Bool) (sizes : List ℕ) (d : ℕ) (v : List ℕ → Leaf)
    → flat (λ p. leaf (v p)) (path_fibers ok sizes (suc d))
    ≡ flat second_leaf (under (followers ok sizes v) (path_fibers ok sizes d))
values-follow ok sizes d v =
    sym (flat-on_tokens second_leaf (λ p. (last p, v p)) (path_fibers ok sizes (suc d)))
    ∙ ap (flat second_leaf) (followers-beneath ok sizes d v)

-- a level's coordinates as lists beneath the prefixes above it
pub coordinates-grow : (ok : List ℕ → Bool) (sizes : List ℕ) (d : ℕ)
    → flat (λ p. Item (last p)) (path_fibers ok sizes (suc d)) ≡ flat Item (under (next ok sizes) (path_fibers ok sizes d))
coordinates-grow ok sizes d =
    sym (flat-on_tokens Item last (path_fibers ok sizes (suc d)))
    ∙ ap (flat Item) (tokens-suc ok sizes d last
    ∙ under-same (λ p. map (λ c. last (p ++ c ∷ [])) (next ok sizes p)) (next ok sizes)
    (λ p. map-ext (λ c. last (p ++ c ∷ [])) (λ c. c) (last-longer p) (next ok sizes p) ∙ map-same (next ok sizes p))
    (path_fibers ok sizes d))

-- ---- blocks

-- what a block gives of streams, it gives of the same streams written otherwise
pub gives-written : (kind : Kind) (ins outs ins' outs' : Streams) → ins ≡ ins' → outs' ≡ outs → AllStreams ins
    → (AllStreams ins' → Gives kind ins' outs') → Gives kind ins outs
gives-written kind ins outs ins' outs' i o s h =
    subst (λ (x : Streams). Gives kind ins x) o
    (subst (λ (x : Streams). Gives kind x outs') (sym i) (h (subst AllStreams i s)))
