-- What the writers leave of the streams of a tree: at each level the ends of its fibers and its coordinates, and its values.
use Rattle.std.specs.Prelude.{◌≡◌, ℕ, zero, suc, ◌+◌, Bool, true, false, cond, ◌||◌, List, [], ◌∷◌, ◌++◌, length, slice_index, eqb, Some, None, refl}
use Rattle.std.specs.List.{filter, list_any}
use mathlib.Core.List.{map}
use Rattle.std.proofs.Common.{arith, sym, ◌∙◌, ap}
use Rattle.std.proofs.lemmas.Bool.Decides.{nat_tests}
use Rattle.std.proofs.lemmas.List.{length-map}
use Rattle.sam_model.specs.Lists.{below}
use Rattle.stream_tokens.specs.declared.Token.{Token}
use Rattle.stream_tokens.specs.Nest.{Leaf, leaf, Fiber}
use Rattle.stream_tokens.specs.Flat.{fiber_tokens, closed, flat, fibers_of}
use Rattle.stream_tokens.specs.Shapes.{on_fibers, on_tokens, under, Each, EachToken}
use Rattle.stream_tokens.proofs.Algebra.{map-same, on_tokens-on_tokens, Each-imp}
use Rattle.block_core.specs.DropFiber.{is_nonempty}
use Rattle.block_core.specs.Written.{items_in, numbers_among, item_fibers, ends_from, segs_of, crds_of, vals_of}
use Rattle.block_core.proofs.Readings.{numbers_among-on_tokens}
use Rattle.block_core.proofs.FillReadings.{contents}
use Rattle.block_core.proofs.Laid.{contents-under}
use Rattle.stream_model.specs.declared.labels.Attr.TheVariants.{Coordinate, Value}
use Rattle.stream_model.specs.Grow.{next, path_fibers}
use Rattle.stream_model.specs.Labels.{Shape, last, stream_at, fibers_at}
use Rattle.sam_model.proofs.Lists.{Each-append, map-ext}
use Rattle.stream_model.proofs.Grown.{InTree, under-same, tokens-suc, paths-InTree}
use Rattle.stream_model.proofs.Flat.{in_order, in_order-tokens}
use Rattle.stream_model.proofs.Streams.{stream_at-flat, fibers_of-stream_at}
use Rattle.stream_model.proofs.Levels.{last-longer}
use Rattle.custard_lower.proofs.written.WrittenPlaces.{running_ends, ends_of, running-mapped}
use Rattle.custard_lower.proofs.written.WrittenLevels.{prefixes_at, level_ends}

-- ---- the numbers of a stream

-- where each has one
pub numbers-of-all : {A : Type 0} (g : A → ℕ) (xs : List A) → numbers_among (map (λ x. Some (g x)) xs) ≡ map g xs
numbers-of-all g [] = refl
numbers-of-all g (x ∷ xs) = ap (λ (ns : List ℕ). g x ∷ ns) (numbers-of-all g xs)

items_closed : (k : ℕ) (s : List Token) → items_in (closed k s) ≡ items_in s
items_closed zero s = refl
items_closed (suc k) s = refl

items_fiber : (os : List Leaf) (k : ℕ) (s : List Token) (more : List Leaf) → items_in s ≡ numbers_among more
    → items_in (fiber_tokens leaf os (closed k s)) ≡ numbers_among (os ++ more)
items_fiber [] k s more e = items_closed k s ∙ e
items_fiber (None ∷ os) k s more e = items_fiber os k s more e
items_fiber (Some n ∷ os) k s more e = ap (λ (ns : List ℕ). n ∷ ns) (items_fiber os k s more e)

items_flat : (fs : List (Fiber Leaf)) → items_in (flat leaf fs) ≡ numbers_among (in_order fs)
items_flat [] = refl
items_flat (f ∷ fs) = items_fiber f.0 f.1 (flat leaf fs) (in_order fs) (items_flat fs)

-- the values that are written are those there are
pub values-listed : (s : Shape) → vals_of (stream_at s Value) ≡ numbers_among (in_order (fibers_at s Value))
values-listed s = ap items_in (stream_at-flat s Value) ∙ items_flat (fibers_at s Value)

-- the coordinates that are written of a level are the last ones of its prefixes
pub coordinates-listed : (s : Shape) → crds_of (stream_at s Coordinate) ≡ map last (prefixes_at s.ok s.sizes s.depth)
coordinates-listed s =
    ap items_in (stream_at-flat s Coordinate)
    ∙ items_flat (fibers_at s Coordinate)
    ∙ ap numbers_among (in_order-tokens (λ p. Some (last p)) (path_fibers s.ok s.sizes s.depth))
    ∙ numbers-of-all last (prefixes_at s.ok s.sizes s.depth)

-- ---- the ends of fibers

-- the fibers of a level's stream lie beneath the prefixes of the level above
level_fibers : (s : Shape) (n : ℕ) → s.depth ≡ suc n
    → fibers_of (stream_at s Coordinate) ≡ on_tokens Some (under (next s.ok s.sizes) (path_fibers s.ok s.sizes n))
level_fibers s n e =
    fibers_of-stream_at s Coordinate
    ∙ ap (λ (d : ℕ). on_tokens (λ p. Some (last p)) (path_fibers s.ok s.sizes d)) e
    ∙ sym (on_tokens-on_tokens Some last (path_fibers s.ok s.sizes (suc n)))
    ∙ ap (on_tokens Some)
    (tokens-suc s.ok s.sizes n last
    ∙ under-same (λ p. map (λ c. last (p ++ c ∷ [])) (next s.ok s.sizes p)) (next s.ok s.sizes)
    (λ p. map-ext (λ c. last (p ++ c ∷ [])) (λ c. c) (last-longer p) (next s.ok s.sizes p) ∙ map-same (next s.ok s.sizes p))
    (path_fibers s.ok s.sizes n))

level_items : (s : Shape) (n : ℕ) → s.depth ≡ suc n
    → item_fibers (stream_at s Coordinate) ≡ under (next s.ok s.sizes) (path_fibers s.ok s.sizes n)
level_items s n e =
    ap (on_fibers numbers_among) (level_fibers s n e) ∙ numbers_among-on_tokens (under (next s.ok s.sizes) (path_fibers s.ok s.sizes n))

-- the first level has one fiber
pub first-ends : (s : Shape) → s.depth ≡ 1 → segs_of 1 (stream_at s Coordinate) ≡ level_ends s.ok s.sizes 0
first-ends s e =
    ap (λ (fs : List (Fiber ℕ)). 0 ∷ ends_from true 0 fs) (level_items s 0 e)
    ∙ ap (λ (n : ℕ). 0 ∷ (0 + n) ∷ []) (sym (length-map (next s.ok s.sizes []) (λ (c : ℕ). c ∷ [])))

filled_ends : (count : ℕ) (fs : List (Fiber ℕ)) → ends_from false count fs ≡ running_ends count (contents fs)
filled_ends count [] = refl
filled_ends count (([], n) ∷ fs) = filled_ends count fs
filled_ends count (((x ∷ xs), n) ∷ fs) = rw (filled_ends (count + suc (length xs)) fs) refl

-- the coordinates beneath each of these prefixes, where there are any
abbrev pub lists_beneath : (List ℕ → Bool) → List ℕ → List (List ℕ) → List (List ℕ)
lists_beneath ok sizes ps = filter is_nonempty (map (next ok sizes) ps)

-- at a later level the fibers count that aren't empty
pub later-ends : (s : Shape) (n : ℕ) → s.depth ≡ suc (suc n)
    → segs_of (suc (suc n)) (stream_at s Coordinate) ≡ ends_of (lists_beneath s.ok s.sizes (prefixes_at s.ok s.sizes (suc n)))
later-ends s n e =
    ap (λ (first : Bool). 0 ∷ ends_from first 0 (item_fibers (stream_at s Coordinate))) (not_first n)
    ∙ ap (λ (fs : List (Fiber ℕ)). 0 ∷ ends_from false 0 fs) (level_items s (suc n) e)
    ∙ ap (λ (ends : List ℕ). 0 ∷ ends)
    (filled_ends 0 (under (next s.ok s.sizes) (path_fibers s.ok s.sizes (suc n)))
    ∙ ap (running_ends 0) (contents-under (next s.ok s.sizes) (path_fibers s.ok s.sizes (suc n))))
  where
    not_first : (n : ℕ) → eqb (suc (suc n)) 1 ≡ false
    not_first n = grind (arith, nat_tests)

-- ---- prefixes that go on

all_nonempty : {A : Type 0} (f : A → List ℕ) (xs : List A) → Each (λ x. is_nonempty (f x) ≡ true) xs
    → filter is_nonempty (map f xs) ≡ map f xs
all_nonempty f [] e = refl
all_nonempty f (x ∷ xs) e = rw (e.0, all_nonempty f xs e.1) refl

some_passes : (test : ℕ → Bool) (xs : List ℕ) → list_any test xs ≡ true → is_nonempty (filter test xs) ≡ true
some_passes test [] e = e
some_passes test (x ∷ xs) e = by_case (test x) (some_passes test xs) e
  where
    by_case : (b : Bool) → (list_any test xs ≡ true → is_nonempty (filter test xs) ≡ true) → (b || list_any test xs) ≡ true
        → is_nonempty (cond b (x ∷ filter test xs) (filter test xs)) ≡ true
    by_case true r e = refl
    by_case false r e = r e

each_in_order : {A : Type 0} (Q : A → Type 0) (fs : List (Fiber A)) → EachToken Q fs → Each Q (in_order fs)
each_in_order Q [] e = tt
each_in_order Q (f ∷ fs) e = Each-append Q f.0 (in_order fs) e.0 (each_in_order Q fs e.1)

-- each prefix of length d has a longer one
abbrev pub GoesOn : (List ℕ → Bool) → List ℕ → ℕ → Type 0
GoesOn ok sizes d = (p : List ℕ) → InTree ok sizes d p
    → list_any (λ c. ok (p ++ c ∷ [])) (below (slice_index sizes (length p))) ≡ true

-- then no fiber beneath them is empty
pub full-ends : (s : Shape) (n : ℕ) → s.depth ≡ suc (suc n) → s.ok [] ≡ true → GoesOn s.ok s.sizes (suc n)
    → segs_of (suc (suc n)) (stream_at s Coordinate) ≡ level_ends s.ok s.sizes (suc n)
full-ends s n e root goes =
    later-ends s n e
    ∙ ap (λ (xss : List (List ℕ)). ends_of xss) (all_nonempty (next s.ok s.sizes) (prefixes_at s.ok s.sizes (suc n)) each)
    ∙ ap (λ (ends : List ℕ). 0 ∷ ends)
    (sym (running-mapped (λ p c. p ++ c ∷ []) (next s.ok s.sizes) 0 (prefixes_at s.ok s.sizes (suc n))))
  where
    each : Each (λ p. is_nonempty (next s.ok s.sizes p) ≡ true) (prefixes_at s.ok s.sizes (suc n))
    each =
        Each-imp (InTree s.ok s.sizes (suc n)) (λ p. is_nonempty (next s.ok s.sizes p) ≡ true)
        (λ p i. some_passes (λ c. s.ok (p ++ c ∷ [])) (below (slice_index s.sizes (length p))) (goes p i))
        (prefixes_at s.ok s.sizes (suc n))
        (each_in_order (InTree s.ok s.sizes (suc n)) (path_fibers s.ok s.sizes (suc n)) (paths-InTree s.ok s.sizes root (suc n)))
