-- All prefixes of a length, in the order of their stream: the tuples that pass, ascending.
use Rattle.std.specs.Prelude.{◌≡◌, ◌<◌, ◌≤◌, ℕ, zero, suc, Bool, true, false, cond, List, [], ◌∷◌, ◌++◌, length, take, slice_index, refl}
use Rattle.std.specs.List.{flat_map, filter}
use mathlib.Core.List.{map}
use Rattle.std.proofs.Common.{arith, sym, ◌∙◌, ap, subst}
use Rattle.std.proofs.lemmas.Grind.{flat_map-append}
use Rattle.std.proofs.lemmas.List.{map-append}
use Rattle.std.proofs.lemmas.List.Elements.{filter-append}
use Rattle.sam_model.specs.Lists.{below, tuples}
use Rattle.stream_tokens.specs.Nest.{Fiber, spread}
use Rattle.stream_tokens.specs.Shapes.{on_tokens, beneath_by, under, Each}
use Rattle.stream_model.specs.Grow.{longer, path_fibers}
use Rattle.sam_model.proofs.Lists.{Each-range, filter-map, filter-none}
use Rattle.sam_model.proofs.Tuples.{followed, tuples-more, tuples-front-long}
use Rattle.stream_model.proofs.Grown.{path_fibers-suc}

-- ---- the tokens of fibers in a row

abbrev pub in_order : {A : Type 0} → List (Fiber A) → List A
in_order fs = flat_map (λ f. f.0) fs

flat_spread : {A B : Type 0} (f : A → List B) (x : A) (xs : List A) (n : ℕ) → in_order (spread (f x) (map f xs) n) ≡ flat_map f (x ∷ xs)
flat_spread f x [] n = refl
flat_spread {B = B} f x (y ∷ ys) n = ap (λ (t : List B). f x ++ t) (flat_spread f y ys n)

flat_beneath : {A B : Type 0} (f : A → List B) (g : Fiber A) → in_order (beneath_by f g) ≡ flat_map f g.0
flat_beneath f ([], n) = refl
flat_beneath f ((x ∷ xs), n) = flat_spread f x xs n

pub in_order-under : {A B : Type 0} (f : A → List B) (fs : List (Fiber A)) → in_order (under f fs) ≡ flat_map f (in_order fs)
in_order-under f [] = refl
in_order-under {B = B} f (g ∷ fs) =
    flat_map-append (λ (h : Fiber B). h.0) (beneath_by f g) (under f fs)
    ∙ ap (λ (t : List B). t ++ in_order (under f fs)) (flat_beneath f g)
    ∙ ap (λ (t : List B). flat_map f g.0 ++ t) (in_order-under f fs)
    ∙ sym (flat_map-append f g.0 (in_order fs))

pub in_order-tokens : {A B : Type 0} (f : A → B) (fs : List (Fiber A)) → in_order (on_tokens f fs) ≡ map f (in_order fs)
in_order-tokens f [] = refl
in_order-tokens {B = B} f (g ∷ fs) = ap (λ (t : List B). map f g.0 ++ t) (in_order-tokens f fs) ∙ sym (map-append f g.0 (in_order fs))

-- ---- the prefixes of a tree

-- a test that holds of each beginning of what it holds of, within these sizes
abbrev pub ClosedUnder : (List ℕ → Bool) → List ℕ → Type 0
ClosedUnder ok sizes = (p : List ℕ) (c : ℕ) → c < slice_index sizes (length p) → ok p ≡ false → ok (p ++ c ∷ []) ≡ false

one_more : (ok : List ℕ → Bool) (sizes : List ℕ) (k : ℕ) → ClosedUnder ok sizes → (ps : List (List ℕ)) → Each (λ p. length p ≡ k) ps
    → flat_map (longer ok sizes) (filter ok ps) ≡ filter ok (flat_map (followed (slice_index sizes k)) ps)
one_more ok sizes k closed [] h = refl
one_more ok sizes k closed (p ∷ ps) h = by_case (ok p) refl (one_more ok sizes k closed ps h.1)
  where
    here : longer ok sizes p ≡ filter ok (followed (slice_index sizes k) p)
    here =
        ap (λ (n : ℕ). map (λ c. p ++ c ∷ []) (filter (λ c. ok (p ++ c ∷ [])) (below (slice_index sizes n)))) h.0
        ∙ sym (filter-map ok (λ c. p ++ c ∷ []) (below (slice_index sizes k)))

    nothing : ok p ≡ false → filter ok (followed (slice_index sizes k) p) ≡ []
    nothing e =
        filter-map ok (λ c. p ++ c ∷ []) (below (slice_index sizes k))
        ∙ ap (λ (cs : List ℕ). map (λ c. p ++ c ∷ []) cs) (filter-none (slice_index sizes k) (λ c. ok (p ++ c ∷ [])) (λ c l. closed p c (subst (λ (n : ℕ). c < slice_index sizes n) (sym h.0) l) e) (below (slice_index sizes k))
        (Each-range 0 (slice_index sizes k) (slice_index sizes k) (omega arith)))

    by_case : (b : Bool) → ok p ≡ b → flat_map (longer ok sizes) (filter ok ps) ≡ filter ok (flat_map (followed (slice_index sizes k)) ps)
        → flat_map (longer ok sizes) (cond b (p ∷ filter ok ps) (filter ok ps)) ≡ filter ok (followed (slice_index sizes k) p ++ flat_map (followed (slice_index sizes k)) ps)
    by_case true e r =
        ap (λ (t : List (List ℕ)). longer ok sizes p ++ t) r
        ∙ ap (λ (t : List (List ℕ)). t ++ filter ok (flat_map (followed (slice_index sizes k)) ps)) here
        ∙ sym (filter-append ok (followed (slice_index sizes k) p) (flat_map (followed (slice_index sizes k)) ps))
    by_case false e r =
        r
        ∙ ap (λ (t : List (List ℕ)). t ++ filter ok (flat_map (followed (slice_index sizes k)) ps)) (sym (nothing e))
        ∙ sym (filter-append ok (followed (slice_index sizes k) p) (flat_map (followed (slice_index sizes k)) ps))

-- the prefixes of length d in order are the tuples of this length that the tree has
pub flat-paths : (ok : List ℕ → Bool) (sizes : List ℕ) → ok [] ≡ true → ClosedUnder ok sizes → (d : ℕ) → d ≤ length sizes
    → in_order (path_fibers ok sizes d) ≡ filter ok (tuples (take d sizes))
flat-paths ok sizes root closed zero h = sym (ap (λ b. cond b ([] ∷ []) []) root)
flat-paths ok sizes root closed (suc d) h =
    ap in_order (path_fibers-suc ok sizes d)
    ∙ in_order-under (longer ok sizes) (path_fibers ok sizes d)
    ∙ ap (flat_map (longer ok sizes)) (flat-paths ok sizes root closed d (omega (arith, h)))
    ∙ one_more ok sizes d closed (tuples (take d sizes)) (tuples-front-long sizes d (omega (arith, h)))
    ∙ ap (filter ok) (sym (tuples-more sizes d (omega (arith, h))))
