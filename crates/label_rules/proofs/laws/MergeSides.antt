-- The streams of a side of a merge: the coordinates of a level, and what is told of it, so many times.
use Rattle.std.specs.Prelude.{◌≡◌, ◌<◌, ◌≤◌, ℕ, suc, ◌+◌, Bool, true, List, [], ◌∷◌, ◌++◌, length, get_or, slice_index, None, refl}
use mathlib.Core.List.{map}
use Rattle.std.proofs.Common.{arith, sym, ◌∙◌, ap}
use Rattle.std.proofs.lemmas.List.{get_or-map}
use Rattle.stream_tokens.specs.Nest.{Leaf, leaf}
use Rattle.stream_tokens.specs.Flat.{flat}
use Rattle.stream_tokens.specs.Shapes.{on_tokens, under, Each}
use Rattle.stream_tokens.proofs.Algebra.{map-map, flat-on_tokens, on_fibers-under}
use Rattle.block_core.specs.Move.{over}
use Rattle.block_core.specs.Ports.{Streams, AllStreams}
use Rattle.block_core.specs.Merge.{Head, Ascends, head_token, side_streams}
use Rattle.stream_model.specs.Grow.{next, longer, path_fibers}
use Rattle.stream_model.specs.Labels.{last}
use Rattle.sam_model.proofs.Lists.{Each-always, Each-map, map-ext}
use Rattle.stream_model.proofs.Grown.{EachToken-always, under-same}
use Rattle.label_rules.proofs.laws.ItemStreams.{flat-ext}
use Rattle.stream_model.proofs.Levels.{last-longer, deeper-flows}
use Rattle.label_rules.proofs.laws.MetRanges.{ascends-range}
use Rattle.label_rules.proofs.laws.Following.{followers}
use Rattle.stream_model.specs.Tellings.{Prefixes, Telling, told, deeper, coordinate}

-- coordinates, and what each of these tells
abbrev pub side : List Telling → Prefixes → Streams
side xs fs = told coordinate fs ∷ map (λ x. told x fs) xs

-- what they tell of one prefix
abbrev pub payloads : List Telling → List ℕ → List Leaf
payloads xs p = map (λ x. x p) xs

pub payload-count : (xs : List Telling) (p : List ℕ) → length (payloads xs p) ≡ length xs
payload-count [] p = refl
payload-count (x ∷ xs) p = ap suc (payload-count xs p)

-- the heads that follow a prefix
abbrev pub heads : (List ℕ → Bool) → List ℕ → List Telling → List ℕ → List Head
heads own sizes xs p = followers own sizes (payloads xs) p

abbrev path_head : List Telling → List ℕ → Head
path_head xs p = (last p, payloads xs p)

heads_beneath : (own : List ℕ → Bool) (sizes : List ℕ) (xs : List Telling) (fs : Prefixes)
    → on_tokens (path_head xs) (deeper own sizes fs) ≡ under (heads own sizes xs) fs
heads_beneath own sizes xs fs =
    on_fibers-under (map (path_head xs)) (longer own sizes) refl fs
    ∙ under-same (λ p. map (path_head xs) (longer own sizes p)) (heads own sizes xs)
    (λ p.
    map-map (path_head xs) (λ c. p ++ c ∷ []) (next own sizes p)
    ∙ map-ext (λ c. path_head xs (p ++ c ∷ [])) (λ c. (c, payloads xs (p ++ c ∷ [])))
    (λ c. ap (λ (n : ℕ). (n, payloads xs (p ++ c ∷ []))) (last-longer p c)) (next own sizes p)) fs

-- what stands at as many ports as a list is long, where each port tells of its item
over-list : {A B : Type 0} (s : ℕ → A) (g : B → A) (xs : List B) (e : B) (p : ℕ)
    → ((q : ℕ) → q < length xs → s (p + q) ≡ g (get_or xs q e)) → over s p (length xs) ≡ map g xs
over-list s g [] e p h = refl
over-list s g (x ∷ xs) e p h =
    let first : s p ≡ g x = ap s (omega arith) ∙ h 0 (omega arith) in
    let more : over s (suc p) (length xs) ≡ map g xs =
    over-list s g xs e (suc p) (λ q l. ap s (omega arith) ∙ h (suc q) (omega (arith, l))) in
    rw (first, more) refl

abbrev untold : Telling
untold p = None

side_of : (xs : List Telling) (gs : Prefixes) → side_streams (length xs) (on_tokens (path_head xs) gs) ≡ side xs gs
side_of xs gs =
    rw (first, over-list (λ q. flat (head_token q) (on_tokens (path_head xs) gs)) (λ x. told x gs) xs untold 1 more) refl
  where
    first : flat (head_token 0) (on_tokens (path_head xs) gs) ≡ told coordinate gs
    first = flat-on_tokens (head_token 0) (path_head xs) gs

    payload : (q : ℕ) → q < length xs → flat (head_token (suc q)) (on_tokens (path_head xs) gs) ≡ told (get_or xs q untold) gs
    payload q l =
        flat-on_tokens (head_token (suc q)) (path_head xs) gs
        ∙ flat-ext (λ (p : List ℕ). Unit {0}) (λ p. leaf (get_or (payloads xs p) q None)) (λ p. leaf (get_or xs q untold p))
        (λ p e. ap leaf (get_or-map (λ (x : Telling). x p) xs q untold None l)) gs
        (EachToken-always (λ (p : List ℕ). Unit {0}) (λ p. tt) gs)

    next_port : (q : ℕ) → 1 + q ≡ suc q
    next_port q = omega arith

    more : (q : ℕ) → q < length xs → flat (head_token (1 + q)) (on_tokens (path_head xs) gs) ≡ told (get_or xs q untold) gs
    more q l = ap (λ (n : ℕ). flat (head_token n) (on_tokens (path_head xs) gs)) (next_port q) ∙ payload q l

-- the heads below some prefixes make up the streams of the side
pub side-is : (own : List ℕ → Bool) (sizes : List ℕ) (xs : List Telling) (fs : Prefixes)
    → side_streams (length xs) (under (heads own sizes xs) fs) ≡ side xs (deeper own sizes fs)
side-is own sizes xs fs =
    ap (side_streams (length xs)) (sym (heads_beneath own sizes xs fs)) ∙ side_of xs (deeper own sizes fs)

all_flow : (ok own : List ℕ → Bool) (sizes : List ℕ) (d : ℕ) → ok [] ≡ true → suc d ≤ 200 → (xs : List Telling)
    → AllStreams (map (λ x. told x (deeper own sizes (path_fibers ok sizes d))) xs)
all_flow ok own sizes d root h [] = tt
all_flow ok own sizes d root h (x ∷ xs) = (deeper-flows x ok own sizes d root h, all_flow ok own sizes d root h xs)

pub side-flows : (ok own : List ℕ → Bool) (sizes : List ℕ) (d : ℕ) → ok [] ≡ true → suc d ≤ 200 → (xs : List Telling)
    → AllStreams (side xs (deeper own sizes (path_fibers ok sizes d)))
side-flows ok own sizes d root h xs = (deeper-flows coordinate ok own sizes d root h, all_flow ok own sizes d root h xs)

-- each head has a payload for each telling, and they ascend
pub heads-wide : (own : List ℕ → Bool) (sizes : List ℕ) (xs : List Telling) (p : List ℕ)
    → Each (λ (h : Head). length h.1 ≡ length xs) (heads own sizes xs p)
heads-wide own sizes xs p =
    Each-map (λ (h : Head). length h.1 ≡ length xs) (λ c. (c, payloads xs (p ++ c ∷ []))) (λ (c : ℕ). Unit {0})
    (λ c e. payload-count xs (p ++ c ∷ [])) (next own sizes p)
    (Each-always (λ (c : ℕ). Unit {0}) (λ c. tt) (next own sizes p))

pub heads-ascend : (own : List ℕ → Bool) (sizes : List ℕ) (xs : List Telling) (p : List ℕ) → Ascends (heads own sizes xs p)
heads-ascend own sizes xs p = ascends-range (λ c. payloads xs (p ++ c ∷ [])) (λ c. own (p ++ c ∷ [])) 0 (slice_index sizes (length p))
