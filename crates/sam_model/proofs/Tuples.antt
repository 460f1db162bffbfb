-- Tuples below sizes, one coordinate longer; and the tuples of loops.
use Rattle.std.specs.Prelude.{◌≡◌, ◌<◌, ◌≤◌, ℕ, zero, suc, true, false, List, [], ◌∷◌, ◌++◌, length, take, slice_index, refl}
use Rattle.std.specs.List.{flat_map}
use mathlib.Core.List.{map, map-map}
use Rattle.std.proofs.Common.{arith, sym, ◌∙◌, ap}
use Rattle.std.proofs.lemmas.List.{append-nil}
use Rattle.std.proofs.lemmas.List.Folds.{flat_map-map}
use Rattle.sam_base.specs.Each.{Each}
use Rattle.sam_model.specs.Lists.{below, tuples}
use Rattle.sam_model.specs.Denote.{Loop, fill}
use Rattle.sam_model.proofs.Lists.{Each-always, Each-map, Each-flat_map, Each-weaker, flat_map-ext, flat_map-flat_map, flat_map-single, map-flat_map}

-- each coordinate below s, after p
abbrev pub followed : ℕ → List ℕ → List (List ℕ)
followed s p = map (λ c. p ++ c ∷ []) (below s)

-- followed behind a first coordinate
headed : (c s : ℕ) (ts : List (List ℕ)) → map (λ u. c ∷ u) (flat_map (followed s) ts) ≡ flat_map (followed s) (map (λ u. c ∷ u) ts)
headed c s ts =
    map-flat_map (λ (u : List ℕ). c ∷ u) (followed s) ts
    ∙ flat_map-ext (λ p. map (λ (u : List ℕ). c ∷ u) (followed s p)) (λ p. followed s (c ∷ p))
    (λ p. map-map (λ (u : List ℕ). c ∷ u) (λ d. p ++ d ∷ []) (below s)) ts
    ∙ sym (flat_map-map (followed s) (λ (u : List ℕ). c ∷ u) ts)

pub tuples-more : (sizes : List ℕ) (k : ℕ) → k < length sizes → tuples (take (suc k) sizes) ≡ flat_map (followed (slice_index sizes k)) (tuples (take k sizes))
tuples-more [] k h = absurd (omega (arith, h))
tuples-more (s ∷ sizes) zero h = flat_map-single (λ c. c ∷ []) (below s) ∙ sym (append-nil (map (λ c. c ∷ []) (below s)))
tuples-more (s ∷ sizes) (suc k) h =
    flat_map-ext (λ c. map (λ u. c ∷ u) (tuples (take (suc k) sizes))) (λ c. flat_map (followed (slice_index sizes k)) (map (λ u. c ∷ u) (tuples (take k sizes))))
    (λ c. ap (λ (us : List (List ℕ)). map (λ u. c ∷ u) us) (tuples-more sizes k (omega (arith, h))) ∙ headed c (slice_index sizes k) (tuples (take k sizes)))
    (below s)
    ∙ sym (flat_map-flat_map (followed (slice_index sizes k)) (λ c. map (λ u. c ∷ u) (tuples (take k sizes))) (below s))

pub tuples-long : (sizes : List ℕ) → Each (λ p. length p ≡ length sizes) (tuples sizes)
tuples-long [] = (refl, tt)
tuples-long (s ∷ sizes) =
    Each-flat_map (λ (c : ℕ). Unit {0}) (λ p. length p ≡ length (s ∷ sizes)) (λ c. map (λ u. c ∷ u) (tuples sizes))
    (λ c e. Each-map (λ p. length p ≡ length (s ∷ sizes)) (λ u. c ∷ u) (λ p. length p ≡ length sizes) (λ u e. ap suc e) (tuples sizes) (tuples-long sizes))
    (below s) (Each-always (λ (c : ℕ). Unit {0}) (λ c. tt) (below s))

length_front : (sizes : List ℕ) (k : ℕ) → k ≤ length sizes → length (take k sizes) ≡ k
length_front [] zero h = refl
length_front [] (suc k) h = absurd (omega (arith, h))
length_front (s ∷ sizes) zero h = refl
length_front (s ∷ sizes) (suc k) h = ap suc (length_front sizes k (omega (arith, h)))

-- the tuples below the first k sizes have length k
pub tuples-front-long : (sizes : List ℕ) (k : ℕ) → k ≤ length sizes → Each (λ p. length p ≡ k) (tuples (take k sizes))
tuples-front-long sizes k h =
    Each-weaker (λ p. length p ≡ length (take k sizes)) (λ p. length p ≡ k) (λ p e. e ∙ length_front sizes k h) (tuples (take k sizes)) (tuples-long (take k sizes))

-- ---- the tuples of loops

pub fill-length : (loops : List Loop) (x : List ℕ) → Each (λ u. length u ≡ length loops) (fill loops x)
fill-length [] x = (refl, tt)
fill-length ((s, true) ∷ loops) [] = tt
fill-length ((s, true) ∷ loops) (c ∷ x) =
    Each-map (λ u. length u ≡ length ((s, true) ∷ loops)) (λ u. c ∷ u) (λ u. length u ≡ length loops) (λ u e. ap suc e) (fill loops x) (fill-length loops x)
fill-length ((s, false) ∷ loops) x =
    Each-flat_map (λ (c : ℕ). Unit {0}) (λ u. length u ≡ length ((s, false) ∷ loops)) (λ c. map (λ u. c ∷ u) (fill loops x))
    (λ c e. Each-map (λ u. length u ≡ length ((s, false) ∷ loops)) (λ u. c ∷ u) (λ u. length u ≡ length loops) (λ u e. ap suc e) (fill loops x) (fill-length loops x))
    (below s) (Each-always (λ (c : ℕ). Unit {0}) (λ c. tt) (below s))
