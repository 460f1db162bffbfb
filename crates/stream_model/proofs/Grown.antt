-- Trees of prefixes: each level lies beneath the one above it, and what holds of each prefix.
use Rattle.std.specs.Prelude.{◌≡◌, ◌<◌, ℕ, zero, suc, Bool, true, false, ◌&&◌, List, [], ◌∷◌, ◌++◌, length, slice_index, ltb, refl}
use mathlib.Core.List.{map}
use Rattle.std.proofs.Common.{arith, sym, ◌∙◌, ap, subst}
use Rattle.std.proofs.lemmas.Bool.{and_parts}
use Rattle.std.proofs.lemmas.Bool.Decides.{nat_tests}
use Rattle.std.proofs.lemmas.List.{length_push}
use Rattle.sam_model.specs.Lists.{within}
use Rattle.stream_tokens.specs.Nest.{Fiber}
use Rattle.stream_tokens.specs.Shapes.{on_tokens, under, Each, EachToken}
use Rattle.stream_tokens.proofs.Algebra.{map-map, on_fibers-under, under-ext, EachToken-under, fibers-grown}
use Rattle.sam_model.proofs.Lists.{Each-always, Each-map, filter-range}
use Rattle.stream_model.specs.Grow.{next, longer, paths, path_fibers}

-- ---- one level beneath another

pub path_fibers-suc : (ok : List ℕ → Bool) (sizes : List ℕ) (d : ℕ) → path_fibers ok sizes (suc d) ≡ under (longer ok sizes) (path_fibers ok sizes d)
path_fibers-suc ok sizes d = fibers-grown {A = List ℕ} {B = List ℕ} d (longer ok sizes) (paths ok sizes d)

pub EachToken-always : {A : Type 0} (Q : A → Type 0) → ((x : A) → Q x) → (fs : List (Fiber A)) → EachToken Q fs
EachToken-always Q h [] = tt
EachToken-always Q h (f ∷ fs) = (Each-always Q h f.0, EachToken-always Q h fs)

pub under-same : {A B : Type 0} (f g : A → List B) → ((x : A) → f x ≡ g x) → (fs : List (Fiber A)) → under f fs ≡ under g fs
under-same {A = A} f g h fs = under-ext (λ (x : A). Unit {0}) f g (λ x e. h x) fs (EachToken-always (λ (x : A). Unit {0}) (λ x. tt) fs)

pub tokens-suc : {B : Type 0} (ok : List ℕ → Bool) (sizes : List ℕ) (d : ℕ) (tok : List ℕ → B)
    → on_tokens tok (path_fibers ok sizes (suc d)) ≡ under (λ p. map (λ c. tok (p ++ c ∷ [])) (next ok sizes p)) (path_fibers ok sizes d)
tokens-suc {B = B} ok sizes d tok =
    ap (λ (fs : List (Fiber (List ℕ))). on_tokens tok fs) (path_fibers-suc ok sizes d)
    ∙ on_fibers-under (map tok) (longer ok sizes) refl (path_fibers ok sizes d)
    ∙ under-same (λ p. map tok (longer ok sizes p)) (λ p. map (λ c. tok (p ++ c ∷ [])) (next ok sizes p))
    (λ p. map-map tok (λ c. p ++ c ∷ []) (next ok sizes p)) (path_fibers ok sizes d)

-- ---- the prefixes of a level

-- a prefix of the level d of a tree
pub record InTree (ok : List ℕ → Bool) (sizes : List ℕ) (d : ℕ) (p : List ℕ) : Type 0 where
  pub count : length p ≡ d
  pub passes : ok p ≡ true
  pub in_range : within sizes p ≡ true

pub each-next : (ok : List ℕ → Bool) (sizes p : List ℕ) → Each (λ c. (ok (p ++ c ∷ []) ≡ true) × (c < slice_index sizes (length p))) (next ok sizes p)
each-next ok sizes p = filter-range (λ c. ok (p ++ c ∷ [])) 0 (slice_index sizes (length p)) (slice_index sizes (length p)) (omega arith)

small_head : (c s : ℕ) (b : Bool) → c < s → b ≡ true → (ltb c s && b) ≡ true
small_head c s b h e = grind (arith, nat_tests)

no_item : (n c : ℕ) → c < slice_index [] n → false ≡ true
no_item n c h = absurd (omega (arith, h))

pub within-longer : (sizes p : List ℕ) (c : ℕ) → within sizes p ≡ true → c < slice_index sizes (length p) → within sizes (p ++ c ∷ []) ≡ true
within-longer [] [] c h e = no_item 0 c e
within-longer [] (x ∷ p) c h e = h
within-longer (s ∷ sizes) [] c h e = small_head c s true e refl
within-longer (s ∷ sizes) (x ∷ p) c h e =
    let r = within-longer sizes p c (and_parts (ltb x s) (within sizes p) h).1 e in
    rw (and_parts (ltb x s) (within sizes p) h).0 r

pub longer-InTree : (ok : List ℕ → Bool) (sizes : List ℕ) (d : ℕ) (p : List ℕ) → InTree ok sizes d p → Each (InTree ok sizes (suc d)) (longer ok sizes p)
longer-InTree ok sizes d p h =
    Each-map (InTree ok sizes (suc d)) (λ c. p ++ c ∷ []) (λ c. (ok (p ++ c ∷ []) ≡ true) × (c < slice_index sizes (length p))) one (next ok sizes p)
    (each-next ok sizes p)
  where
    one : (c : ℕ) → (ok (p ++ c ∷ []) ≡ true) × (c < slice_index sizes (length p)) → InTree ok sizes (suc d) (p ++ c ∷ [])
    one c e = record { count = omega (arith, length_push p c, h.count); passes = e.0; in_range = within-longer sizes p c h.in_range e.1 }

pub paths-InTree : (ok : List ℕ → Bool) (sizes : List ℕ) → ok [] ≡ true → (d : ℕ) → EachToken (InTree ok sizes d) (path_fibers ok sizes d)
paths-InTree ok sizes root zero = ((record { count = refl; passes = root; in_range = refl }, tt), tt)
paths-InTree ok sizes root (suc d) =
    subst (EachToken (InTree ok sizes (suc d))) (sym (path_fibers-suc ok sizes d))
    (EachToken-under (InTree ok sizes d) (InTree ok sizes (suc d)) (longer ok sizes) (longer-InTree ok sizes d) (path_fibers ok sizes d) (paths-InTree ok sizes root d))

-- trees that grow alike are the same down to a depth
pub paths-same : (ok ok' : List ℕ → Bool) (sizes sizes' : List ℕ) → ok [] ≡ true → (d : ℕ)
    → ((e : ℕ) (p : List ℕ) → e < d → InTree ok sizes e p → longer ok sizes p ≡ longer ok' sizes' p) → path_fibers ok sizes d ≡ path_fibers ok' sizes' d
paths-same ok ok' sizes sizes' root zero h = refl
paths-same ok ok' sizes sizes' root (suc d) h =
    path_fibers-suc ok sizes d
    ∙ under-ext (InTree ok sizes d) (longer ok sizes) (longer ok' sizes') (λ p e. h d p (omega arith) e) (path_fibers ok sizes d) (paths-InTree ok sizes root d)
    ∙ ap (under (longer ok' sizes')) (paths-same ok ok' sizes sizes' root d (λ e p k t. h e p (omega (arith, k)) t))
    ∙ sym (path_fibers-suc ok' sizes' d)
