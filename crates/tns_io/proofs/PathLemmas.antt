-- The paths of a written result in range.
use Rattle.std.proofs.Common.{◌≡◌, ℕ, zero, suc, ◌+◌, ◌<◌, ◌≤◌, Bool, true, false, cond, List, [], ◌∷◌, length, get_or, drop, refl, sym, ◌∙◌, arith, nat_le, add-one}
use Rattle.std.proofs.lemmas.Bool.{leb-true, le-leb, lt-leb}
use Rattle.std.specs.List.{prefix_len}
use Rattle.sam_model.specs.Listing.{LevelsInRange, ValuesInRange, InRange, place_above, outer_place}
use Rattle.sam_model.specs.declared.tensors.Written.{Written}
use Rattle.tns_io.specs.Walks.{IsReached, NotPast}

on-step : (t : Bool) (f n : ℕ) → (f ≤ n → suc f ≤ n) → suc f ≤ cond t (1 + n) 0 → suc (suc f) ≤ cond t (1 + n) 0
on-step true f n h k = let more = h (omega arith) in omega arith
on-step false f n h k = absurd (omega (arith, k))

on : (ends : List ℕ) (f q : ℕ) → f ≤ prefix_len (λ end. nat_le end q) ends → f < length ends → get_or ends f 0 ≤ q → suc f ≤ prefix_len (λ end. nat_le end q) ends
on [] f q h k e = absurd (omega (arith, k))
on (x ∷ ends) zero q h k e = rw (le-leb x q e) (omega arith)
on (x ∷ ends) (suc f) q h k e = on-step (nat_le x q) f _ (λ less. on ends f q less (omega arith) e) h

there-step : (t : Bool) (f n : ℕ) → (f ≤ n → f ≡ n) → suc f ≤ cond t (1 + n) 0 → suc f ≡ cond t (1 + n) 0
there-step true f n h k = let same = h (omega arith) in omega arith
there-step false f n h k = absurd (omega (arith, k))

there : (ends : List ℕ) (f q : ℕ) → f ≤ prefix_len (λ end. nat_le end q) ends → q < get_or ends f 0 → f ≡ prefix_len (λ end. nat_le end q) ends
there [] f q h e = omega (arith, h)
there (x ∷ ends) zero q h e = rw (lt-leb x q e) refl
there (x ∷ ends) (suc f) q h e = there-step (nat_le x q) f _ (λ less. there ends f q less e) h

-- the fiber of a place, as a walk along the ends meets it
pub fiber-on : (ends : List ℕ) (fiber place : ℕ) → fiber ≤ place_above ends place → fiber + 1 < length ends → get_or ends (fiber + 1) 0 ≤ place → fiber + 1 ≤ place_above ends place
fiber-on [] fiber place h k e = absurd (omega (arith, k))
fiber-on (x ∷ ends) fiber place h k e =
    let at : get_or ends fiber 0 ≤ place = rw add-one at e in
    rw add-one (on ends fiber place h (omega arith) at)

pub fiber-there : (ends : List ℕ) (fiber place : ℕ) → fiber ≤ place_above ends place → place < get_or ends (fiber + 1) 0 → fiber ≡ place_above ends place
fiber-there [] fiber place h e = omega (arith, h)
fiber-there (x ∷ ends) fiber place h e =
    let at : place < get_or ends fiber 0 = rw add-one at e in
    there ends fiber place h at

step-up : (t u : Bool) (m n : ℕ) → (t ≡ true → u ≡ true) → m ≤ n → cond t (1 + m) 0 ≤ cond u (1 + n) 0
step-up true true m n f h = omega arith
step-up true false m n f h = let e = f refl in cc
step-up false u m n f h = omega arith

-- a later place is in no earlier fiber
ends-before : (ends : List ℕ) (p q : ℕ) → p ≤ q → prefix_len (λ end. nat_le end p) ends ≤ prefix_len (λ end. nat_le end q) ends
ends-before [] p q h = omega arith
ends-before (e ∷ ends) p q h =
    step-up (nat_le e p) (nat_le e q) _ _
    (λ k. let low : e ≤ p = leb-true _ _ k in le-leb e q (omega arith)) (ends-before ends p q h)

pub place-grows : (segs : List (List ℕ)) (p q : ℕ) → p ≤ q → outer_place segs p ≤ outer_place segs q
place-grows [] p q h = h
place-grows (ends ∷ segs) p q h = ends-before (drop 1 ends) (outer_place segs p) (outer_place segs q) (place-grows segs p q h)

pub not-past-next : (fibers : List ℕ) (segs : List (List ℕ)) (p q : ℕ) → p ≤ q → NotPast fibers segs p → NotPast fibers segs q
not-past-next fibers segs p q h n k less = let more = place-grows (drop k segs) p q h in let old = n k less in omega arith

below-step : (t : Bool) (n a : ℕ) → n ≤ a → cond t (1 + n) 0 ≤ suc a
below-step true n a h = omega arith
below-step false n a h = omega arith

prefix-below : (ends : List ℕ) (a q : ℕ) → q < get_or ends a 0 → prefix_len (λ end. nat_le end q) ends ≤ a
prefix-below [] a q h = omega arith
prefix-below (x ∷ ends) zero q h = rw (lt-leb x q h) (omega arith)
prefix-below (x ∷ ends) (suc a) q h = below-step (nat_le x q) _ a (prefix-below ends a q h)

-- in a level in range
pub ends-behind : (ends : List ℕ) (above q size : ℕ) → length ends ≡ suc above → get_or ends 0 0 ≡ 0 → get_or ends above 0 ≡ size → q < size → place_above ends q < above
ends-behind [] above q size h f l k = absurd (omega (arith, h))
ends-behind (e ∷ ends) zero q size h f l k = absurd (omega (arith, f, l))
ends-behind (e ∷ ends) (suc above) q size h f l k =
    let most = prefix-below ends above q (omega arith) in omega arith

-- how many places the last level has
abbrev LastHas : ℕ → List (List ℕ) → List ℕ → Type 0
LastHas above [] vals = length vals ≤ above
LastHas above (cs ∷ crds) vals = LastHas (length cs) crds vals

last-has : (cs : List ℕ) (crds : List (List ℕ)) (vals : List ℕ) → ValuesInRange (cs ∷ crds) vals → LastHas (length cs) crds vals
last-has cs [] vals h = omega (arith, h)
last-has cs (ds ∷ crds) vals h = last-has ds crds vals h

all-have : (crds : List (List ℕ)) (vals : List ℕ) → ValuesInRange crds vals → LastHas 1 crds vals
all-have [] vals h = h
all-have (cs ∷ crds) vals h = last-has cs crds vals h

record Reached (above : ℕ) (segs crds : List (List ℕ)) (q : ℕ) : Type 0 where
  place : outer_place segs q < above
  there : (k : ℕ) → k < length segs → IsReached (drop k segs) (drop k crds) q

reached : (above : ℕ) (segs crds : List (List ℕ)) (vals : List ℕ) (q : ℕ) → length segs ≡ length crds → LevelsInRange above segs crds → LastHas above crds vals → q < length vals → Reached above segs crds q
reached above [] [] vals q e h l k = record { place = omega (arith, l); there = λ j less. absurd (omega (arith, less)) }
reached above [] (cs ∷ crds) vals q e h l k = absurd (omega (arith, e))
reached above (ends ∷ segs) [] vals q e h l k = absurd (omega (arith, e))
reached above (ends ∷ segs) (cs ∷ crds) vals q e h l k =
    let below = reached (length cs) segs crds vals q (omega (arith, e)) h.1 l k in
    let fiber = ends-behind ends above (outer_place segs q) (length cs) h.0.count h.0.first h.0.last below.place in
    record { place = fiber; there = each-level ends segs cs crds q (below.place, omega (arith, h.0.count)) below.there }
  where
    each-level : (ends : List ℕ) (segs : List (List ℕ)) (cs : List ℕ) (crds : List (List ℕ)) (q : ℕ) → IsReached (ends ∷ segs) (cs ∷ crds) q → ((k : ℕ) → k < length segs → IsReached (drop k segs) (drop k crds) q) → (k : ℕ) → k < suc (length segs) → IsReached (drop k (ends ∷ segs)) (drop k (cs ∷ crds)) q
    each-level ends segs cs crds q here there zero less = here
    each-level ends segs cs crds q here there (suc k) less = there k (omega arith)

-- each value of a written result in range is reached
pub values-reached : (r : ℕ) (w : Written) (q : ℕ) → InRange r w → q < length w.vals → (k : ℕ) → k < length w.segs → IsReached (drop k w.segs) (drop k w.crds) q
values-reached r w q h less = (reached 1 w.segs w.crds w.vals q (h.segs ∙ sym h.crds) h.levels (all-have w.crds w.vals h.vals) less).there
