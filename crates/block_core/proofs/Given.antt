-- What a block gives of streams that are written over one list of fibers: the inputs fit, and the outputs are written over it too.
use Rattle.std.specs.Prelude.{◌≡◌, ℕ, suc, ◌+◌, Bool, true, false, List, [], ◌∷◌, ◌++◌, length, refl}
use Rattle.std.specs.List.{filter}
use mathlib.Core.List.{map}
use Rattle.std.proofs.Common.{inl, sym, ◌∙◌, ap, subst}
use Rattle.stream_tokens.specs.declared.Token.{Token}
use Rattle.stream_tokens.specs.declared.Token.TheVariants.{Item}
use Rattle.stream_tokens.specs.Nest.{Leaf, leaf, Fiber, spread}
use Rattle.stream_tokens.specs.Flat.{flat}
use Rattle.stream_tokens.specs.Shapes.{on_tokens, on_fibers, under, both, at_least_one, Positive, Shaped}
use Rattle.stream_tokens.proofs.Algebra.{map-same, flat-on_tokens, under-on_tokens, Positive-on_fibers}
use Rattle.block_core.specs.Ports.{Streams, AllStreams, first_item, second_leaf, second, same}
use Rattle.block_core.specs.Change.{ItemsBelow, on_item, referenced_value}
use Rattle.block_core.specs.Scan.{Children, coordinates_below, references_below}
use Rattle.block_core.specs.Arithmetic.{Operation, combined_leaf, sum_leaves}
use Rattle.block_core.specs.SumVector.{vector_sum}
use Rattle.block_core.specs.SumMatrix.{MatrixRow, matrix_sum}
use Rattle.block_core.specs.DropValue.{has_value}
use Rattle.block_core.specs.DropFiber.{has_fiber}
use Rattle.block_core.specs.Merge.{Head, left_of, right_of, side_streams, sides_of, Ascends, AllAscend, AllClose, merged, merged_of}
use Rattle.block_core.specs.Kind.{Kind, ScanKind, RepeatKind, IntersectKind, UnionKind, AluKind, ArrayKind, ConstKind, CastKind, DrainKind, SumScalarKind, SumVectorKind, SumMatrixKind, DropValueKind, DropFiberKind, WriteLevelKind, WriteValueKind, Reading, reading, given, made, Well, outputs, Fits}
use Rattle.block_core.proofs.Readings.{scan-read, repeat-read, alu-read, sumscalar-read, sumvector-read, summatrix-read, dropvalue-read, dropfiber-read, level-read, Pieces, Shaped-on_tokens}
use Rattle.block_core.proofs.MergeReadings.{merge-read, Wide}

-- the inputs fit, and the block function gives these outputs
pub record Gives (kind : Kind) (ins outs : Streams) : Type 0 where
  pub fits : Fits kind ins
  pub made_of : outputs kind ins ≡ outs

-- ---- from a reading

pub fits-given : (kind : Kind) (j : Reading kind) → reading kind (given kind j) ≡ j → AllStreams (given kind j) → Well kind j → Fits kind (given kind j)
fits-given kind j e s w = record { streams = s; back = ap (given kind) e; well = subst (Well kind) (sym e) w }

pub outputs-given : (kind : Kind) (j : Reading kind) → reading kind (given kind j) ≡ j → outputs kind (given kind j) ≡ made kind j
outputs-given kind j e = ap (made kind) e

-- where the inputs and outputs are those of a reading that is read back
pub gives : (kind : Kind) (j : Reading kind) (ins outs : Streams) → reading kind (given kind j) ≡ j → Well kind j
    → given kind j ≡ ins → made kind j ≡ outs → AllStreams ins → Gives kind ins outs
gives kind j ins outs e w i o s =
    subst (λ (x : Streams). Gives kind x outs) i
    (record { fits = fits-given kind j e (subst AllStreams (sym i) s) w; made_of = outputs-given kind j e ∙ o })

-- ---- one stream

pub cast-gives : (outs : ℕ) (s : List Token) → AllStreams (s ∷ []) → Gives (CastKind outs) (s ∷ []) (made (CastKind outs) s)
cast-gives outs s a = gives (CastKind outs) s (s ∷ []) (made (CastKind outs) s) refl tt refl refl a

pub drain-gives : (s : List Token) → AllStreams (s ∷ []) → Gives DrainKind (s ∷ []) []
drain-gives s a = gives DrainKind s (s ∷ []) [] refl tt refl refl a

pub writevalue-gives : (s : List Token) → AllStreams (s ∷ []) → Gives WriteValueKind (s ∷ []) []
writevalue-gives s a = gives WriteValueKind s (s ∷ []) [] refl tt refl refl a

pub writelevel-gives : {A : Type 0} (level : ℕ) (c : A → ℕ) (fs : List (Fiber A)) → Positive fs
    → AllStreams (flat (λ x. Item (c x)) fs ∷ []) → Gives (WriteLevelKind level) (flat (λ x. Item (c x)) fs ∷ []) []
writelevel-gives level c fs w a =
    gives (WriteLevelKind level) (on_tokens c fs) (flat (λ x. Item (c x)) fs ∷ []) []
    (level-read (on_tokens c fs) (inl (Positive-on_fibers (map c) fs w))) (Positive-on_fibers (map c) fs w)
    (ap (λ (x : List Token). x ∷ []) (flat-on_tokens Item c fs)) refl a

pub array-gives : (values : List ℕ) (s : List Token) → ItemsBelow (length values) s → AllStreams (s ∷ [])
    → Gives (ArrayKind values) (s ∷ []) (map (on_item (referenced_value values)) s ∷ [])
array-gives values s b a = gives (ArrayKind values) s (s ∷ []) (map (on_item (referenced_value values)) s ∷ []) refl b refl refl a

pub const-gives : (c : ℕ) (s : List Token) → AllStreams (s ∷ []) → Gives (ConstKind c) (s ∷ []) (map (on_item (λ _. c)) s ∷ [])
const-gives c s a = gives (ConstKind c) s (s ∷ []) (map (on_item (λ _. c)) s ∷ []) refl tt refl refl a

pub scan-over : {A : Type 0} (children : Children) (x : A → Leaf) (fs : List (Fiber A)) → Shaped fs
    → ItemsBelow (length children) (flat (λ a. leaf (x a)) fs) → AllStreams (flat (λ a. leaf (x a)) fs ∷ [])
    → Gives (ScanKind children) (flat (λ a. leaf (x a)) fs ∷ [])
    (flat Item (under (λ a. coordinates_below children (x a)) fs) ∷ flat Item (under (λ a. references_below children (x a)) fs) ∷ [])
scan-over children x fs w b s =
    let j = on_tokens x fs in
    let shaped : Shaped (on_tokens x fs) = Shaped-on_tokens x fs w in
    gives (ScanKind children) j (flat (λ a. leaf (x a)) fs ∷ []) _ (scan-read j shaped)
    (record { shaped = shaped; references = subst (ItemsBelow (length children)) (sym (flat-on_tokens leaf x fs)) b })
    (ap (λ (y : List Token). y ∷ []) (flat-on_tokens leaf x fs))
    (rw (under-on_tokens (coordinates_below children) x fs, under-on_tokens (references_below children) x fs) refl) s

-- ---- two streams

pub repeat-over : {A : Type 0} (x : A → Leaf) (cs : A → List ℕ) (fs : List (Fiber A)) → Shaped fs
    → AllStreams (flat Item (under cs fs) ∷ flat (λ a. leaf (x a)) fs ∷ [])
    → Gives RepeatKind (flat Item (under cs fs) ∷ flat (λ a. leaf (x a)) fs ∷ []) (flat leaf (under (λ a. map (λ _. x a) (cs a)) fs) ∷ [])
repeat-over {A = A} x cs fs w s =
    let g : A → Leaf × List ℕ = λ a. (x a, cs a) in
    let j : List (Fiber (Leaf × List ℕ)) = on_tokens g fs in
    gives RepeatKind j (flat Item (under cs fs) ∷ flat (λ a. leaf (x a)) fs ∷ []) _
    (repeat-read j (Shaped-on_tokens g fs w)) (Shaped-on_tokens g fs w)
    (rw (under-on_tokens second g fs, flat-on_tokens (λ (p : Leaf × List ℕ). leaf p.0) g fs) refl)
    (rw (under-on_tokens (λ (p : Leaf × List ℕ). map (λ _. p.0) p.1) g fs) refl) s

pub sumscalar-over : {A : Type 0} (c : A → ℕ) (vs : A → List Leaf) (fs : List (Fiber A)) → Shaped fs
    → AllStreams (flat (λ a. Item (c a)) fs ∷ flat leaf (under vs fs) ∷ [])
    → Gives SumScalarKind (flat (λ a. Item (c a)) fs ∷ flat leaf (under vs fs) ∷ []) (flat (λ a. leaf (sum_leaves (vs a))) fs ∷ [])
sumscalar-over {A = A} c vs fs w s =
    let g : A → ℕ × List Leaf = λ a. (c a, vs a) in
    let j : List (Fiber (ℕ × List Leaf)) = on_tokens g fs in
    gives SumScalarKind j (flat (λ a. Item (c a)) fs ∷ flat leaf (under vs fs) ∷ []) _
    (sumscalar-read j (Shaped-on_tokens g fs w)) (Shaped-on_tokens g fs w)
    (rw (under-on_tokens second g fs, flat-on_tokens (λ (p : ℕ × List Leaf). Item p.0) g fs) refl)
    (ap (λ (y : List Token). y ∷ [])
    (flat-on_tokens leaf (λ (p : ℕ × List Leaf). sum_leaves p.1) (on_tokens g fs)
    ∙ flat-on_tokens (λ (p : ℕ × List Leaf). leaf (sum_leaves p.1)) g fs)) s

pub alu-over : {A : Type 0} (op : Operation) (x y : A → Leaf) (fs : List (Fiber A)) → Shaped fs
    → AllStreams (flat (λ a. leaf (x a)) fs ∷ flat (λ a. leaf (y a)) fs ∷ [])
    → Gives (AluKind op) (flat (λ a. leaf (x a)) fs ∷ flat (λ a. leaf (y a)) fs ∷ []) (flat (λ a. leaf (combined_leaf op (x a) (y a))) fs ∷ [])
alu-over {A = A} op x y fs w s =
    let g : A → Leaf × Leaf = λ a. (x a, y a) in
    let j : List (Fiber (Leaf × Leaf)) = on_tokens g fs in
    gives (AluKind op) j (flat (λ a. leaf (x a)) fs ∷ flat (λ a. leaf (y a)) fs ∷ []) _
    (alu-read j (Shaped-on_tokens g fs w)) tt
    (rw (flat-on_tokens (λ (p : Leaf × Leaf). leaf p.0) g fs, flat-on_tokens (λ (p : Leaf × Leaf). leaf p.1) g fs) refl)
    (ap (λ (z : List Token). z ∷ [])
    (flat-on_tokens leaf (λ (p : Leaf × Leaf). combined_leaf op p.0 p.1) (on_tokens g fs)
    ∙ flat-on_tokens (λ (p : Leaf × Leaf). leaf (combined_leaf op p.0 p.1)) g fs)) s

pub dropvalue-over : (fs : List (Fiber (ℕ × Leaf))) → Positive fs → AllStreams (flat first_item fs ∷ flat second_leaf fs ∷ [])
    → Gives DropValueKind (flat first_item fs ∷ flat second_leaf fs ∷ [])
    (flat first_item (on_fibers (filter has_value) fs) ∷ flat second_leaf (on_fibers (filter has_value) fs) ∷ [])
dropvalue-over fs w s = gives DropValueKind fs _ _ (dropvalue-read fs (inl w)) w refl refl s

pub dropfiber-over : (fs : List (Fiber (ℕ × List ℕ))) → Positive fs → AllStreams (flat first_item fs ∷ flat Item (under second fs) ∷ [])
    → Gives DropFiberKind (flat first_item fs ∷ flat Item (under second fs) ∷ [])
    (flat first_item (on_fibers (filter has_fiber) fs) ∷ flat Item (under second (on_fibers (filter has_fiber) fs)) ∷ [])
dropfiber-over fs w s = gives DropFiberKind fs _ _ (dropfiber-read fs (inl w)) w refl refl s

-- ---- pieces

-- the pieces of what lies beneath a list of fibers
abbrev pub pieces : {A B : Type 0} → (A → List B) → List (Fiber A) → List (Fiber (List B))
pieces f fs = on_fibers (λ xs. at_least_one (map f xs)) fs

has-pieces : {A B : Type 0} (f : A → List B) (fs : List (Fiber A)) → Pieces (pieces f fs)
has-pieces f [] = tt
has-pieces f (([], n) ∷ fs) = has-pieces f fs
has-pieces f (((x ∷ xs), n) ∷ fs) = has-pieces f fs

pub under-cut : {A B : Type 0} (f : A → List B) (fs : List (Fiber A)) → under same (pieces f fs) ≡ under f fs
under-cut f [] = refl
under-cut f (([], n) ∷ fs) = ap (λ (x : List (Fiber _)). ([], suc n) ∷ x) (under-cut f fs)
under-cut f (((x ∷ xs), n) ∷ fs) =
    ap (λ (ys : List (List _)). spread (f x) ys n ++ under same (pieces f fs)) (map-same (map f xs))
    ∙ ap (λ (z : List (Fiber _)). spread (f x) (map f xs) n ++ z) (under-cut f fs)

-- a function of pieces for which one empty fiber is like none
piecewise : {A B C : Type 0} (h : List (List B) → List C) (f : A → List B) → h ([] ∷ []) ≡ h [] → (fs : List (Fiber A))
    → on_fibers h (pieces f fs) ≡ on_fibers (λ xs. h (map f xs)) fs
piecewise h f e [] = refl
piecewise h f e (([], n) ∷ fs) = rw (e, piecewise h f e fs) refl
piecewise h f e (((x ∷ xs), n) ∷ fs) = ap (λ (z : List (Fiber _)). (h (map f (x ∷ xs)), n) ∷ z) (piecewise h f e fs)

pub sumvector-over : {A : Type 0} (f : A → List (ℕ × Leaf)) (fs : List (Fiber A)) → Positive fs
    → AllStreams (flat first_item (under f fs) ∷ flat second_leaf (under f fs) ∷ [])
    → Gives SumVectorKind (flat first_item (under f fs) ∷ flat second_leaf (under f fs) ∷ [])
    (flat first_item (on_fibers (λ xs. vector_sum (map f xs)) fs) ∷ flat second_leaf (on_fibers (λ xs. vector_sum (map f xs)) fs) ∷ [])
sumvector-over f fs w s =
    let p : Positive (pieces f fs) = Positive-on_fibers (λ xs. at_least_one (map f xs)) fs w in
    gives SumVectorKind (pieces f fs) _ _ (sumvector-read (pieces f fs) p (has-pieces f fs)) p
    (rw (under-cut f fs) refl) (rw (piecewise vector_sum f refl fs) refl) s

pub summatrix-over : {A : Type 0} (f : A → List MatrixRow) (fs : List (Fiber A)) → Positive fs
    → AllStreams (flat first_item (under f fs) ∷ flat first_item (under second (under f fs)) ∷ flat second_leaf (under second (under f fs)) ∷ [])
    → Gives SumMatrixKind (flat first_item (under f fs) ∷ flat first_item (under second (under f fs)) ∷ flat second_leaf (under second (under f fs)) ∷ [])
    (flat first_item (on_fibers (λ xs. matrix_sum (map f xs)) fs) ∷ flat first_item (under second (on_fibers (λ xs. matrix_sum (map f xs)) fs))
    ∷ flat second_leaf (under second (on_fibers (λ xs. matrix_sum (map f xs)) fs)) ∷ [])
summatrix-over f fs w s =
    let p : Positive (pieces f fs) = Positive-on_fibers (λ xs. at_least_one (map f xs)) fs w in
    gives SumMatrixKind (pieces f fs) _ _ (summatrix-read (pieces f fs) p (has-pieces f fs)) p
    (rw (under-cut f fs) refl) (rw (piecewise matrix_sum f refl fs) refl) s

-- ---- two sides

-- both have as many fibers, with equal closes
abbrev pub Level : List (Fiber Head) → List (Fiber Head) → Type 0
Level [] [] = Unit {0}
Level [] (g ∷ gs) = ⊥
Level (f ∷ fs) [] = ⊥
Level (f ∷ fs) (g ∷ gs) = (f.1 ≡ g.1) × Level fs gs

lefts : (fs gs : List (Fiber Head)) → Level fs gs → map left_of (sides_of fs gs) ≡ fs
lefts [] [] e = refl
lefts [] (g ∷ gs) e = absurd e
lefts (f ∷ fs) [] e = absurd e
lefts (f ∷ fs) (g ∷ gs) e = ap (λ (x : List (Fiber Head)). f ∷ x) (lefts fs gs e.1)

rights : (fs gs : List (Fiber Head)) → Level fs gs → map right_of (sides_of fs gs) ≡ gs
rights [] [] e = refl
rights [] (g ∷ gs) e = absurd e
rights (f ∷ fs) [] e = absurd e
rights (f ∷ fs) (g ∷ gs) e = rw (rights fs gs e.1, e.0) refl

merged-both : (u : Bool) (l r : ℕ) (fs gs : List (Fiber Head)) → map (merged_of u l r) (sides_of fs gs) ≡ both (merged u l r) fs gs
merged-both u l r [] gs = refl
merged-both u l r (f ∷ fs) [] = refl
merged-both u l r (f ∷ fs) (g ∷ gs) = ap (λ (x : List (Fiber Head)). (merged u l r f.0 g.0, f.1) ∷ x) (merged-both u l r fs gs)

close-sides : (fs gs : List (Fiber Head)) → Positive fs → AllClose (sides_of fs gs)
close-sides [] gs w = tt
close-sides (f ∷ fs) [] w = tt
close-sides (f ∷ fs) (g ∷ gs) w = (w.0, close-sides fs gs w.1)

-- each fiber of a side ascends
abbrev pub SideAscends : List (Fiber Head) → Type 0
SideAscends [] = Unit {0}
SideAscends (f ∷ fs) = Ascends f.0 × SideAscends fs

ascend-sides : (fs gs : List (Fiber Head)) → SideAscends fs → SideAscends gs → AllAscend (sides_of fs gs)
ascend-sides [] gs a b = tt
ascend-sides (f ∷ fs) [] a b = tt
ascend-sides (f ∷ fs) (g ∷ gs) a b = (a.0, b.0, ascend-sides fs gs a.1 b.1)

pub intersect-gives : (l r : ℕ) (fs gs : List (Fiber Head)) → Positive fs → Level fs gs → Wide l fs → Wide r gs → SideAscends fs → SideAscends gs
    → AllStreams (side_streams l fs ++ side_streams r gs)
    → Gives (IntersectKind l r) (side_streams l fs ++ side_streams r gs) (side_streams (l + r) (both (merged false l r) fs gs))
intersect-gives l r fs gs w e wl wr al ar s =
    let j = sides_of fs gs in
    gives (IntersectKind l r) j _ _
    (merge-read l r j (close-sides fs gs w) (subst (Wide l) (sym (lefts fs gs e)) wl) (subst (Wide r) (sym (rights fs gs e)) wr))
    (record { closes = close-sides fs gs w; ascend = ascend-sides fs gs al ar })
    (ap (λ (x : List (Fiber Head)). side_streams l x ++ side_streams r (map right_of j)) (lefts fs gs e)
    ∙ ap (λ (x : List (Fiber Head)). side_streams l fs ++ side_streams r x) (rights fs gs e)) (ap (side_streams (l + r)) (merged-both false l r fs gs)) s

pub union-gives : (l r : ℕ) (fs gs : List (Fiber Head)) → Positive fs → Level fs gs → Wide l fs → Wide r gs → SideAscends fs → SideAscends gs
    → AllStreams (side_streams l fs ++ side_streams r gs)
    → Gives (UnionKind l r) (side_streams l fs ++ side_streams r gs) (side_streams (l + r) (both (merged true l r) fs gs))
union-gives l r fs gs w e wl wr al ar s =
    let j = sides_of fs gs in
    gives (UnionKind l r) j _ _
    (merge-read l r j (close-sides fs gs w) (subst (Wide l) (sym (lefts fs gs e)) wl) (subst (Wide r) (sym (rights fs gs e)) wr))
    (record { closes = close-sides fs gs w; ascend = ascend-sides fs gs al ar })
    (ap (λ (x : List (Fiber Head)). side_streams l x ++ side_streams r (map right_of j)) (lefts fs gs e)
    ∙ ap (λ (x : List (Fiber Head)). side_streams l fs ++ side_streams r x) (rights fs gs e)) (ap (side_streams (l + r)) (merged-both true l r fs gs)) s
