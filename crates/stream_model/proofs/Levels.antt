-- What is told of the prefixes of a level: how its stream is written, and which trees have these prefixes.
use Rattle.std.specs.Prelude.{◌≡◌, ◌<◌, ◌≤◌, ℕ, suc, Bool, true, false, List, [], ◌∷◌, ◌++◌, length, slice_index, ltb, Some, refl}
use Rattle.std.specs.List.{filter}
use mathlib.Core.List.{map}
use Rattle.std.proofs.Common.{arith, sym, ◌∙◌, ap, subst}
use Rattle.std.proofs.lemmas.Bool.Decides.{nat_tests}
use Rattle.std.proofs.lemmas.List.{length_push}
use Rattle.sam_model.specs.Lists.{below}
use Rattle.stream_tokens.specs.declared.Token.TheVariants.{Item}
use Rattle.stream_tokens.specs.Nest.{Leaf, leaf, Fiber, nmap, stream, IsStream}
use Rattle.stream_tokens.specs.Flat.{flat}
use Rattle.stream_tokens.specs.Shapes.{under, EachToken}
use Rattle.stream_tokens.proofs.Algebra.{map-map, map-same, flat-on_tokens, on_fibers-under, on_tokens-ext, under-ext, fibers-nmap}
use Rattle.stream_tokens.proofs.Fibers.{stream-fibers}
use Rattle.stream_model.specs.Grow.{next, longer, paths, path_fibers, from_level}
use Rattle.stream_model.specs.declared.labels.Attr.{Attr}
use Rattle.stream_model.specs.Labels.{last, Shape, token, stream_at}
use Rattle.sam_model.proofs.Lists.{map-ext, filter-ext}
use Rattle.stream_model.proofs.Grown.{InTree, path_fibers-suc, paths-InTree, under-same, paths-same}
use Rattle.stream_model.specs.Tellings.{Prefixes, Telling, coordinate, told, deeper}

pub last-longer : (p : List ℕ) (c : ℕ) → last (p ++ c ∷ []) ≡ c
last-longer [] c = refl
last-longer (x ∷ []) c = refl
last-longer (x ∷ y ∷ p) c = last-longer (y ∷ p) c

-- ---- how they are written

-- what is told of the prefixes one longer, beneath the prefixes
pub told-deeper : (x : Telling) (own : List ℕ → Bool) (sizes : List ℕ) (fs : Prefixes)
    → told x (deeper own sizes fs) ≡ flat leaf (under (λ p. map (λ c. x (p ++ c ∷ [])) (next own sizes p)) fs)
told-deeper x own sizes fs =
    sym (flat-on_tokens leaf x (deeper own sizes fs))
    ∙ ap (flat leaf)
    (on_fibers-under (map x) (longer own sizes) refl fs
    ∙ under-same (λ p. map x (longer own sizes p)) (λ p. map (λ c. x (p ++ c ∷ [])) (next own sizes p))
    (λ p. map-map x (λ c. p ++ c ∷ []) (next own sizes p)) fs)

-- where it is a number
pub numbers-deeper : (n : List ℕ → ℕ) (own : List ℕ → Bool) (sizes : List ℕ) (fs : Prefixes)
    → told (λ p. Some (n p)) (deeper own sizes fs) ≡ flat Item (under (λ p. map (λ c. n (p ++ c ∷ [])) (next own sizes p)) fs)
numbers-deeper n own sizes fs =
    sym (flat-on_tokens Item n (deeper own sizes fs))
    ∙ ap (flat Item)
    (on_fibers-under (map n) (longer own sizes) refl fs
    ∙ under-same (λ p. map n (longer own sizes p)) (λ p. map (λ c. n (p ++ c ∷ [])) (next own sizes p))
    (λ p. map-map n (λ c. p ++ c ∷ []) (next own sizes p)) fs)

-- the coordinates
pub coordinates-deeper : (own : List ℕ → Bool) (sizes : List ℕ) (fs : Prefixes)
    → told coordinate (deeper own sizes fs) ≡ flat Item (under (next own sizes) fs)
coordinates-deeper own sizes fs =
    numbers-deeper last own sizes fs
    ∙ ap (flat Item)
    (under-same (λ p. map (λ c. last (p ++ c ∷ [])) (next own sizes p)) (next own sizes)
    (λ p. map-ext (λ c. last (p ++ c ∷ [])) (λ c. c) (last-longer p) (next own sizes p) ∙ map-same (next own sizes p)) fs)

-- ---- which trees have them

-- the prefixes of a level grow alike by two tests
pub deeper-same : (Q : List ℕ → Type 0) (own own' : List ℕ → Bool) (sizes sizes' : List ℕ) (fs : Prefixes) → EachToken Q fs
    → ((p : List ℕ) → Q p → slice_index sizes (length p) ≡ slice_index sizes' (length p))
    → ((p : List ℕ) (c : ℕ) → Q p → own (p ++ c ∷ []) ≡ own' (p ++ c ∷ []))
    → deeper own sizes fs ≡ deeper own' sizes' fs
deeper-same Q own own' sizes sizes' fs e s h =
    under-ext Q (longer own sizes) (longer own' sizes')
    (λ p q.
    ap (λ (n : ℕ). map (λ c. p ++ c ∷ []) (filter (λ c. own (p ++ c ∷ [])) (below n))) (s p q)
    ∙ ap (λ (cs : List ℕ). map (λ c. p ++ c ∷ []) cs)
    (filter-ext (λ c. own (p ++ c ∷ [])) (λ c. own' (p ++ c ∷ [])) (λ c. h p c q) (below (slice_index sizes' (length p))))) fs e

-- a tree whose last level is of another test lies beneath the tree above it
pub level-beneath : (ok own : List ℕ → Bool) (sizes : List ℕ) (d : ℕ) → ok [] ≡ true
    → path_fibers (from_level (suc d) ok own) sizes (suc d) ≡ deeper own sizes (path_fibers ok sizes d)
level-beneath ok own sizes d root =
    path_fibers-suc (from_level (suc d) ok own) sizes d
    ∙ ap (λ (fs : Prefixes). deeper (from_level (suc d) ok own) sizes fs)
    (paths-same (from_level (suc d) ok own) ok sizes sizes (early [] (omega arith) ∙ root) d
    (λ e p less i.
    ap (λ (cs : List ℕ). map (λ c. p ++ c ∷ []) cs)
    (filter-ext (λ c. from_level (suc d) ok own (p ++ c ∷ [])) (λ c. ok (p ++ c ∷ []))
    (λ c. early (p ++ c ∷ []) (omega (arith, length_push p c, i.count, less))) (below (slice_index sizes (length p))))))
    ∙ deeper-same (InTree ok sizes d) (from_level (suc d) ok own) own sizes sizes (path_fibers ok sizes d)
    (paths-InTree ok sizes root d) (λ p i. refl) (λ p c i. late (p ++ c ∷ []) (omega (arith, length_push p c, i.count)))
  where
    early : (q : List ℕ) → length q < suc d → from_level (suc d) ok own q ≡ ok q
    early q l = let t : ltb (length q) (suc d) ≡ true = grind (arith, nat_tests, l) in rw t refl

    late : (q : List ℕ) → length q ≡ suc d → from_level (suc d) ok own q ≡ own q
    late q l = let t : ltb (length q) (suc d) ≡ false = grind (arith, nat_tests, l) in rw t refl

-- ---- they are streams of trees

pub told-stream : (x : Telling) (ok : List ℕ → Bool) (sizes : List ℕ) (d : ℕ)
    → stream d (nmap {A = List ℕ} {B = Leaf} d x (paths ok sizes d)) ≡ told x (path_fibers ok sizes d)
told-stream x ok sizes d =
    stream-fibers d (nmap {A = List ℕ} {B = Leaf} d x (paths ok sizes d))
    ∙ ap (λ (fs : List (Fiber Leaf)). flat leaf fs) (fibers-nmap {A = List ℕ} {B = Leaf} d x (paths ok sizes d))
    ∙ flat-on_tokens leaf x (path_fibers ok sizes d)

pub told-flows : (x : Telling) (ok : List ℕ → Bool) (sizes : List ℕ) (d : ℕ) → d ≤ 200 → IsStream (told x (path_fibers ok sizes d))
told-flows x ok sizes d h = (d, h, nmap {A = List ℕ} {B = Leaf} d x (paths ok sizes d), sym (told-stream x ok sizes d))

pub deeper-flows : (x : Telling) (ok own : List ℕ → Bool) (sizes : List ℕ) (d : ℕ) → ok [] ≡ true → suc d ≤ 200
    → IsStream (told x (deeper own sizes (path_fibers ok sizes d)))
deeper-flows x ok own sizes d root h =
    subst (λ (fs : Prefixes). IsStream (told x fs)) (level-beneath ok own sizes d root)
    (told-flows x (from_level (suc d) ok own) sizes (suc d) h)

-- ---- what is told of the prefixes of a tree

-- the stream of a tree of prefixes
pub stream-over : (s : Shape) (a : Attr) → stream_at s a ≡ told (token s a) (path_fibers s.ok s.sizes s.depth)
stream-over s a = told-stream (token s a) s.ok s.sizes s.depth

-- two tellings that agree on the prefixes of a tree
pub told-same : (x y : Telling) (ok : List ℕ → Bool) (sizes : List ℕ) (d : ℕ) → ok [] ≡ true
    → ((p : List ℕ) → InTree ok sizes d p → x p ≡ y p) → told x (path_fibers ok sizes d) ≡ told y (path_fibers ok sizes d)
told-same x y ok sizes d root h =
    sym (flat-on_tokens leaf x (path_fibers ok sizes d))
    ∙ ap (λ (fs : List (Fiber Leaf)). flat leaf fs)
    (on_tokens-ext (InTree ok sizes d) x y h (path_fibers ok sizes d) (paths-InTree ok sizes root d))
    ∙ flat-on_tokens leaf y (path_fibers ok sizes d)
