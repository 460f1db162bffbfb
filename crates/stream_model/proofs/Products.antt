-- Product trees: which coordinates follow a prefix, by the accesses that are asked.
use Rattle.std.specs.Prelude.{◌≡◌, ◌<◌, ℕ, zero, suc, ◌+◌, Bool, true, false, not, ◌&&◌, ◌||◌, List, [], ◌∷◌, ◌++◌, length, slice_index, get_or, eqb, refl}
use Rattle.std.specs.List.{filter}
use mathlib.Core.List.{map}
use Rattle.std.proofs.Common.{arith, sym, ◌∙◌, ap, append_assoc, append-nil}
use Rattle.std.proofs.Math.Bool.{and_assoc}
use Rattle.std.proofs.lemmas.Bool.Decides.{nat_tests}
use Rattle.std.proofs.lemmas.List.{length_push}
use Rattle.sam_model.specs.Lists.{below}
use Rattle.stream_tokens.specs.Nest.{Fiber}
use Rattle.stream_tokens.specs.Shapes.{on_tokens, under}
use Rattle.stream_tokens.proofs.Algebra.{under-ext}
use Rattle.stream_model.specs.Grow.{next, longer, path_fibers}
use Rattle.stream_model.specs.Terms.{Operand, TermData}
use Rattle.stream_model.specs.Trees.{admits, all_admit, everyone, grows, asked_at, in_product, in_whole}
use Rattle.stream_model.specs.Masks.{final}
use Rattle.sam_model.proofs.Lists.{and-true, filter-ext}
use Rattle.stream_model.proofs.Grown.{InTree, tokens-suc, paths-InTree, paths-same}

-- ---- one coordinate more

-- p grows after u, then q after both
pub grows-append : (fs : List Operand) (ask : ℕ → List Bool) (u p q : List ℕ) → grows fs ask u (p ++ q) ≡ (grows fs ask u p && grows fs ask (u ++ p) q)
grows-append fs ask u [] q = ap (λ (x : List ℕ). grows fs ask x q) (sym (append-nil u))
grows-append fs ask u (c ∷ p) q =
    ap (λ b. all_admit (ask (length u)) fs u c && b)
    (grows-append fs ask (u ++ c ∷ []) p q ∙ ap (λ (x : List ℕ). grows fs ask (u ++ c ∷ []) p && grows fs ask x q) (append_assoc u (c ∷ []) p))
    ∙ sym (and_assoc (all_admit (ask (length u)) fs u c) (grows fs ask (u ++ c ∷ []) p) (grows fs ask (u ++ c ∷ p) q))

pub grows-longer : (fs : List Operand) (ask : ℕ → List Bool) (p : List ℕ) (c : ℕ)
    → grows fs ask [] (p ++ c ∷ []) ≡ (grows fs ask [] p && all_admit (ask (length p)) fs p c)
grows-longer fs ask p c =
    grows-append fs ask [] p (c ∷ []) ∙ ap (λ b. grows fs ask [] p && b) (and-true (all_admit (ask (length p)) fs p c))

-- the coordinates that follow a prefix of the tree
pub next-grows : (fs : List Operand) (ask : ℕ → List Bool) (sizes p : List ℕ) → grows fs ask [] p ≡ true
    → next (grows fs ask []) sizes p ≡ filter (all_admit (ask (length p)) fs p) (below (slice_index sizes (length p)))
next-grows fs ask sizes p h =
    filter-ext (λ c. grows fs ask [] (p ++ c ∷ [])) (all_admit (ask (length p)) fs p)
    (λ c. grows-longer fs ask p c ∙ ap (λ b. b && all_admit (ask (length p)) fs p c) h) (below (slice_index sizes (length p)))

asked_here : (fs : List Operand) (d n : ℕ) (mask : List Bool) → n ≡ d → asked_at fs (suc d) mask n ≡ mask
asked_here fs d n mask e = let h : eqb (suc n) (suc d) ≡ true = grind (arith, nat_tests) in rw h refl

asked_before : (fs : List Operand) (d n : ℕ) (mask : List Bool) → n < d → asked_at fs (suc d) mask n ≡ everyone fs
asked_before fs d n mask e = let h : eqb (suc n) (suc d) ≡ false = grind (arith, nat_tests) in rw h refl

pub next-product : (t : TermData) (d : ℕ) (mask : List Bool) (sizes p : List ℕ) → InTree (in_product t (suc d) mask) sizes d p
    → next (in_product t (suc d) mask) sizes p ≡ filter (all_admit mask t.accesses p) (below (slice_index sizes (length p)))
next-product t d mask sizes p h =
    next-grows t.accesses (asked_at t.accesses (suc d) mask) sizes p h.passes
    ∙ ap (λ (m : List Bool). filter (all_admit m t.accesses p) (below (slice_index sizes (length p)))) (asked_here t.accesses d (length p) mask h.count)

-- ---- the mask counts at the last level alone

-- prefixes that grow by the same coordinates
same_longer : (fs : List Operand) (ask ask' : ℕ → List Bool) (sizes p : List ℕ) → grows fs ask [] p ≡ true → grows fs ask' [] p ≡ true
    → ((c : ℕ) → all_admit (ask (length p)) fs p c ≡ all_admit (ask' (length p)) fs p c)
    → longer (grows fs ask []) sizes p ≡ longer (grows fs ask' []) sizes p
same_longer fs ask ask' sizes p h k e =
    ap (λ (cs : List ℕ). map (λ c. p ++ c ∷ []) cs)
    (next-grows fs ask sizes p h
    ∙ filter-ext (all_admit (ask (length p)) fs p) (all_admit (ask' (length p)) fs p) e (below (slice_index sizes (length p)))
    ∙ sym (next-grows fs ask' sizes p k))

-- two ways to ask that admit the same at each step
pub grows-same : (fs : List Operand) (ask ask' : ℕ → List Bool) (d : ℕ) → ((n : ℕ) (u : List ℕ) (c : ℕ) → n < d → length u ≡ n → all_admit (ask n) fs u c ≡ all_admit (ask' n) fs u c)
    → (u p : List ℕ) → length u + length p < suc d → grows fs ask u p ≡ grows fs ask' u p
grows-same fs ask ask' d h u [] k = refl
grows-same fs ask ask' d h u (c ∷ p) k =
    let here = h (length u) u c (omega (arith, k)) refl in
    let there = grows-same fs ask ask' d h (u ++ c ∷ []) p (omega (arith, length_push u c, k)) in
    rw (here, there) refl

pub paths-alike : (fs : List Operand) (ask ask' : ℕ → List Bool) (sizes : List ℕ) (d : ℕ)
    → ((n : ℕ) (u : List ℕ) (c : ℕ) → n < d → length u ≡ n → all_admit (ask n) fs u c ≡ all_admit (ask' n) fs u c)
    → path_fibers (grows fs ask []) sizes d ≡ path_fibers (grows fs ask' []) sizes d
paths-alike fs ask ask' sizes d h =
    paths-same (grows fs ask []) (grows fs ask' []) sizes sizes refl d
    (λ e p k i.
    same_longer fs ask ask' sizes p i.passes
    (sym (grows-same fs ask ask' d h [] p (omega (arith, k, i.count))) ∙ i.passes)
    (λ c. h (length p) p c (omega (arith, k, i.count)) refl))

pub paths-lower : (t : TermData) (d : ℕ) (mask : List Bool) (sizes : List ℕ)
    → path_fibers (in_product t (suc d) mask) sizes d ≡ path_fibers (in_whole t) sizes d
paths-lower t d mask sizes =
    paths-alike t.accesses (asked_at t.accesses (suc d) mask) (λ _. everyone t.accesses) sizes d
    (λ n u c k e. ap (λ (m : List Bool). all_admit m t.accesses u c) (asked_before t.accesses d n mask k))

-- ---- one coordinate more in a product tree

-- above its level it asks all accesses
pub product-above : (t : TermData) (d : ℕ) (mask : List Bool) (p : List ℕ) → length p < suc d → in_product t (suc d) mask p ≡ in_whole t p
product-above t d mask p l =
    grows-same t.accesses (asked_at t.accesses (suc d) mask) (λ _. everyone t.accesses) d
    (λ n u c k e. ap (λ (m : List Bool). all_admit m t.accesses u c) (asked_before t.accesses d n mask k)) [] p (omega (arith, l))

-- on it a coordinate follows where the term has the prefix and the accesses of the mask admit it
pub product-longer : (t : TermData) (d : ℕ) (mask : List Bool) (p : List ℕ) (c : ℕ) → length p ≡ d
    → in_product t (suc d) mask (p ++ c ∷ []) ≡ (in_whole t p && all_admit mask t.accesses p c)
product-longer t d mask p c e =
    grows-longer t.accesses (asked_at t.accesses (suc d) mask) p c
    ∙ ap (λ b. b && all_admit (asked_at t.accesses (suc d) mask (length p)) t.accesses p c) (product-above t d mask p (omega (arith, e)))
    ∙ ap (λ (m : List Bool). in_whole t p && all_admit m t.accesses p c) (asked_here t.accesses d (length p) mask e)

-- ---- the final mask

-- an access that lacks the loop admits all
admits_without : (a : Operand) (u : List ℕ) (c d : ℕ) → length u ≡ d → get_or a.has d false ≡ false → admits a u c ≡ true
admits_without a u c d e h =
    let k : get_or a.has (length u) false ≡ false = ap (λ (n : ℕ). get_or a.has n false) e ∙ h in
    rw k refl

pub final-admits : (fs : List Operand) (u : List ℕ) (c d : ℕ) → length u ≡ d
    → all_admit (map (λ a. get_or a.has d false) fs) fs u c ≡ all_admit (everyone fs) fs u c
final-admits [] u c d e = refl
final-admits (a ∷ fs) u c d e = by_case (get_or a.has d false) refl (final-admits fs u c d e)
  where
    by_case : (b : Bool) → get_or a.has d false ≡ b
        → all_admit (map (λ a. get_or a.has d false) fs) fs u c ≡ all_admit (everyone fs) fs u c
        → ((not b || admits a u c) && all_admit (map (λ a. get_or a.has d false) fs) fs u c) ≡ (admits a u c && all_admit (everyone fs) fs u c)
    by_case true h r = ap (λ x. admits a u c && x) r
    by_case false h r = r ∙ ap (λ x. x && all_admit (everyone fs) fs u c) (sym (admits_without a u c d e h))

pub paths-final : (t : TermData) (d : ℕ) (sizes : List ℕ) → path_fibers (in_product t d (final t d)) sizes d ≡ path_fibers (in_whole t) sizes d
paths-final t zero sizes = refl
paths-final t (suc d) sizes =
    paths-alike t.accesses (asked_at t.accesses (suc d) (final t (suc d))) (λ _. everyone t.accesses) sizes (suc d) step
  where
    step : (n : ℕ) (u : List ℕ) (c : ℕ) → n < suc d → length u ≡ n
        → all_admit (asked_at t.accesses (suc d) (final t (suc d)) n) t.accesses u c ≡ all_admit (everyone t.accesses) t.accesses u c
    step n u c k e = by_case (eqb n d) refl
      where
        by_case : (b : Bool) → eqb n d ≡ b
            → all_admit (asked_at t.accesses (suc d) (final t (suc d)) n) t.accesses u c ≡ all_admit (everyone t.accesses) t.accesses u c
        by_case true h =
            let same : n ≡ d = grind (arith, nat_tests) in
            ap (λ (m : List Bool). all_admit m t.accesses u c) (asked_here t.accesses d n (final t (suc d)) same)
            ∙ final-admits t.accesses u c d (e ∙ same)
        by_case false h =
            let less : n < d = grind (arith, nat_tests) in
            ap (λ (m : List Bool). all_admit m t.accesses u c) (asked_before t.accesses d n (final t (suc d)) less)

-- ---- the tokens of a product tree lie beneath the tree one level higher, which no mask narrows

pub product-tokens : {B : Type 0} (t : TermData) (d : ℕ) (mask : List Bool) (sizes : List ℕ) (tok : List ℕ → B)
    → on_tokens tok (path_fibers (in_product t (suc d) mask) sizes (suc d))
    ≡ under (λ p. map (λ c. tok (p ++ c ∷ [])) (filter (all_admit mask t.accesses p) (below (slice_index sizes (length p))))) (path_fibers (in_whole t) sizes d)
product-tokens {B = B} t d mask sizes tok =
    tokens-suc (in_product t (suc d) mask) sizes d tok
    ∙ under-ext (InTree (in_product t (suc d) mask) sizes d)
    (λ p. map (λ c. tok (p ++ c ∷ [])) (next (in_product t (suc d) mask) sizes p))
    (λ p. map (λ c. tok (p ++ c ∷ [])) (filter (all_admit mask t.accesses p) (below (slice_index sizes (length p)))))
    (λ p e. ap (λ (cs : List ℕ). map (λ c. tok (p ++ c ∷ [])) cs) (next-product t d mask sizes p e))
    (path_fibers (in_product t (suc d) mask) sizes d)
    (paths-InTree (in_product t (suc d) mask) sizes refl d)
    ∙ ap (λ (fs : List (Fiber (List ℕ))). under (λ p. map (λ c. tok (p ++ c ∷ [])) (filter (all_admit mask t.accesses p) (below (slice_index sizes (length p))))) fs)
    (paths-lower t d mask sizes)
