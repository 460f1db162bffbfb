-- The reading of the inputs of a reading is that reading again.
use Rattle.std.specs.Prelude.{◌≡◌, ℕ, List, [], ◌∷◌, Some, refl}
use mathlib.Core.List.{map}
use Rattle.std.proofs.Common.{inl, inr, sym, ◌∙◌, ap}
use Rattle.stream_tokens.specs.declared.Token.TheVariants.{Item}
use Rattle.stream_tokens.specs.Nest.{Leaf, leaf, Fiber}
use Rattle.stream_tokens.specs.Flat.{flat, fibers_of}
use Rattle.stream_tokens.specs.Shapes.{on_tokens, on_fibers, under, both, split, cut, pairs, at_least_one, Positive, Shaped}
use Rattle.stream_tokens.proofs.Fibers.{fibers_of-flat}
use Rattle.stream_tokens.proofs.Algebra.{map-same, flat-on_tokens, on_tokens-on_tokens, on_tokens-same, both-pairs, split-under, cut-under, Positive-under, Positive-on_fibers}
use Rattle.block_core.specs.Ports.{number, numbers_of, second, same}
use Rattle.block_core.specs.Scan.{scan_reading, scan_inputs}
use Rattle.block_core.specs.Repeat.{repeat_reading, repeat_inputs}
use Rattle.block_core.specs.Alu.{alu_reading, alu_inputs}
use Rattle.block_core.specs.SumScalar.{sumscalar_reading, sumscalar_inputs}
use Rattle.block_core.specs.SumVector.{sumvector_reading, sumvector_inputs}
use Rattle.block_core.specs.SumMatrix.{MatrixRow, summatrix_reading, summatrix_inputs}
use Rattle.block_core.specs.DropValue.{dropvalue_reading, dropvalue_inputs}
use Rattle.block_core.specs.DropFiber.{dropfiber_reading, dropfiber_inputs}
use Rattle.block_core.specs.Written.{numbers_among, item_fibers}

-- ---- one stream

pub Shaped-on_tokens : {A B : Type 0} (f : A → B) (fs : List (Fiber A)) → Shaped fs → Shaped (on_tokens f fs)
Shaped-on_tokens f fs (inl w) = inl (Positive-on_fibers (map f) fs w)
Shaped-on_tokens f fs (inr s) = inr (f s.0, ap (on_tokens f) s.1)

-- a stream whose tokens are written by f, read back
pub leaves-read : {A : Type 0} (f : A → Leaf) (fs : List (Fiber A)) → Shaped fs → fibers_of (flat (λ x. leaf (f x)) fs) ≡ on_tokens f fs
leaves-read f fs w = ap fibers_of (sym (flat-on_tokens leaf f fs)) ∙ fibers_of-flat (on_tokens f fs) (Shaped-on_tokens f fs w)

pub numbers-read : {A : Type 0} (f : A → ℕ) (fs : List (Fiber A)) → Shaped fs → numbers_of (flat (λ x. Item (f x)) fs) ≡ on_tokens f fs
numbers-read f fs w =
    ap (on_tokens number) (leaves-read (λ x. Some (f x)) fs w) ∙ on_tokens-on_tokens number (λ x. Some (f x)) fs

pub items-read : (fs : List (Fiber ℕ)) → Shaped fs → numbers_of (flat Item fs) ≡ fs
items-read fs w = numbers-read (λ x. x) fs w ∙ on_tokens-same fs

-- numbers alone are all numbers
pub numbers_among-on_tokens : (fs : List (Fiber ℕ)) → on_fibers numbers_among (on_tokens Some fs) ≡ fs
numbers_among-on_tokens [] = refl
numbers_among-on_tokens (f ∷ fs) = rw (all-numbers f.0, numbers_among-on_tokens fs) refl
  where
    all-numbers : (xs : List ℕ) → numbers_among (map Some xs) ≡ xs
    all-numbers [] = refl
    all-numbers (x ∷ xs) = ap (λ (ns : List ℕ). x ∷ ns) (all-numbers xs)

pub item_fibers-flat : (fs : List (Fiber ℕ)) → Shaped fs → item_fibers (flat Item fs) ≡ fs
item_fibers-flat fs w = ap (on_fibers numbers_among) (leaves-read Some fs w) ∙ numbers_among-on_tokens fs

-- ---- two streams of one shape, and one beneath another

both-back : {A B : Type 0} (fs : List (Fiber (A × B))) → both pairs (on_tokens (λ x. x.0) fs) (on_tokens (λ x. x.1) fs) ≡ fs
both-back fs = both-pairs (λ x. x.0) (λ x. x.1) fs ∙ on_tokens-same fs

split-back : {A B : Type 0} (fs : List (Fiber (A × List B))) → split (on_tokens (λ x. x.0) fs) (under second fs) ≡ fs
split-back fs = split-under (λ x. x.0) second fs ∙ on_tokens-same fs

pub scan-read : (j : List (Fiber Leaf)) → Shaped j → scan_reading (scan_inputs j) ≡ j
scan-read j w = fibers_of-flat j w

pub level-read : (j : List (Fiber ℕ)) → Shaped j → numbers_of (flat Item j) ≡ j
level-read j w = items-read j w

pub alu-read : (j : List (Fiber (Leaf × Leaf))) → Shaped j → alu_reading (alu_inputs j) ≡ j
alu-read j w = rw (leaves-read (λ x. x.0) j w, leaves-read (λ x. x.1) j w) (both-back j)

pub dropvalue-read : (j : List (Fiber (ℕ × Leaf))) → Shaped j → dropvalue_reading (dropvalue_inputs j) ≡ j
dropvalue-read j w = rw (numbers-read (λ x. x.0) j w, leaves-read (λ x. x.1) j w) (both-back j)

pub repeat-read : (j : List (Fiber (Leaf × List ℕ))) → Shaped j → repeat_reading (repeat_inputs j) ≡ j
repeat-read j w = rw (leaves-read (λ x. x.0) j w, items-read (under second j) (inl (Positive-under second j))) (split-back j)

pub sumscalar-read : (j : List (Fiber (ℕ × List Leaf))) → Shaped j → sumscalar_reading (sumscalar_inputs j) ≡ j
sumscalar-read j w = rw (numbers-read (λ x. x.0) j w, fibers_of-flat (under second j) (inl (Positive-under second j))) (split-back j)

pub dropfiber-read : (j : List (Fiber (ℕ × List ℕ))) → Shaped j → dropfiber_reading (dropfiber_inputs j) ≡ j
dropfiber-read j w = rw (numbers-read (λ x. x.0) j w, items-read (under second j) (inl (Positive-under second j))) (split-back j)

-- ---- pieces

-- each piece has a fiber
abbrev pub Pieces : {A : Type 0} → List (Fiber (List A)) → Type 0
Pieces [] = Unit {0}
Pieces (([], n) ∷ fs) = ⊥
Pieces (((x ∷ xs), n) ∷ fs) = Pieces fs

none-added : {A : Type 0} (j : List (Fiber (List A))) → Pieces j → on_fibers (λ xs. at_least_one (map same xs)) j ≡ j
none-added [] h = refl
none-added (([], n) ∷ fs) h = absurd h
none-added (((x ∷ xs), n) ∷ fs) h = rw (map-same xs, none-added fs h) refl

cut-back : {A : Type 0} (j : List (Fiber (List A))) → Positive j → Pieces j → cut (under same j) ≡ j
cut-back j w h = cut-under same j w ∙ none-added j h

pub sumvector-read : (j : List (Fiber (List (ℕ × Leaf)))) → Positive j → Pieces j → sumvector_reading (sumvector_inputs j) ≡ j
sumvector-read j w h =
    let s : Shaped (under same j) = inl (Positive-under same j) in
    rw (numbers-read (λ x. x.0) (under same j) s, leaves-read (λ x. x.1) (under same j) s) (ap cut (both-back (under same j)) ∙ cut-back j w h)

pub summatrix-read : (j : List (Fiber (List MatrixRow))) → Positive j → Pieces j → summatrix_reading (summatrix_inputs j) ≡ j
summatrix-read j w h =
    let s : Shaped (under same j) = inl (Positive-under same j) in
    let u : Shaped (under second (under same j)) = inl (Positive-under second (under same j)) in
    rw (numbers-read (λ x. x.0) (under same j) s, numbers-read (λ x. x.0) (under second (under same j)) u, leaves-read (λ x. x.1) (under second (under same j)) u)
    (ap (λ v. cut (split (on_tokens (λ x. x.0) (under same j)) v)) (both-back (under second (under same j)))
    ∙ ap cut (split-back (under same j)) ∙ cut-back j w h)
