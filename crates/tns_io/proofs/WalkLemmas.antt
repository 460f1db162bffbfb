-- One level of a walk.
use Rattle.std.proofs.Common.{◌≡◌, ℕ, zero, suc, ◌+◌, ◌-◌, ◌<◌, ◌≤◌, List, [], ◌∷◌, length, get_or, drop, Some, refl, ap, ◌∙◌, arith, add-one}
use Rattle.std.proofs.Math.ListN.{set}
use Rattle.std.proofs.Math.Seq.{drop-cons}
use Rattle.std.proofs.lemmas.List.{drop-set}
use Rattle.std.specs.List.{slice_get}
use Rattle.sam_model.specs.Listing.{place_above, outer_place, path_of}
use Rattle.tns_io.specs.Walks.{IsReached, NotPast}

get-drop : (xs : List (List ℕ)) (k : ℕ) (x : List ℕ) → slice_get xs k ≡ Some x → drop k xs ≡ x ∷ drop (suc k) xs
get-drop [] k x e = cc
get-drop (y ∷ xs) zero x e = let same : y ≡ x = cc in ap (λ (z : List ℕ). z ∷ xs) same
get-drop (y ∷ xs) (suc k) x e = get-drop xs k x e

-- the list at the level below this one
pub level-at : (xs : List (List ℕ)) (level : ℕ) (x : List ℕ) → 0 < level → slice_get xs (level - 1) ≡ Some x → drop (level - 1) xs ≡ x ∷ drop level xs
level-at xs zero x h e = absurd (omega (arith, h))
level-at xs (suc k) x h e =
    let one : suc k - 1 ≡ k = omega arith in
    let at : slice_get xs k ≡ Some x = rw one at e in
    rw one (get-drop xs k x at)

pub level-in : (xs : List (List ℕ)) (level : ℕ) → 0 < level → level ≤ length xs → drop (level - 1) xs ≡ get_or xs (level - 1) [] ∷ drop level xs
level-in xs zero h k = absurd (omega (arith, h))
level-in xs (suc n) h k = let one : suc n - 1 ≡ n = omega arith in rw one (drop-cons xs n [] (omega arith))

pub level-there : (segs crds : List (List ℕ)) (ends cs : List ℕ) (level place q : ℕ) → drop (level - 1) segs ≡ ends ∷ drop level segs → drop (level - 1) crds ≡ cs ∷ drop level crds → place ≡ outer_place (drop level segs) q
    → IsReached (drop (level - 1) segs) (drop (level - 1) crds) q → (place < length cs) × (place_above ends place + 1 < length ends)
level-there segs crds ends cs level place q s c p h =
    let both : IsReached (ends ∷ drop level segs) (cs ∷ drop level crds) q = rw (s, c) at h in
    rw p both

pub level-behind : (segs : List (List ℕ)) (ends fibers : List ℕ) (level place q : ℕ) → 0 < level → level ≤ length segs → drop (level - 1) segs ≡ ends ∷ drop level segs → place ≡ outer_place (drop level segs) q → NotPast fibers segs q
    → get_or fibers (level - 1) 0 ≤ place_above ends place
level-behind segs ends fibers level place q h k s p n =
    let old : get_or fibers (level - 1) 0 ≤ outer_place (drop (level - 1) segs) q = n (level - 1) (omega arith) in
    let all : get_or fibers (level - 1) 0 ≤ outer_place (ends ∷ drop level segs) q = rw s at old in
    rw p all

set-below : (l : List ℕ) (i f j b : ℕ) → (j ≡ i → f ≤ b) → get_or l j 0 ≤ b → get_or (set l i f) j 0 ≤ b
set-below [] i f j b a h = h
set-below (x ∷ l) zero f zero b a h = a refl
set-below (x ∷ l) zero f (suc j) b a h = h
set-below (x ∷ l) (suc i) f zero b a h = h
set-below (x ∷ l) (suc i) f (suc j) b a h = set-below l i f j b (λ e. a (ap suc e)) h

-- what holds once a level is done
pub record Done (segs crds : List (List ℕ)) (path fibers : List ℕ) (level fiber q : ℕ) : Type 0 where
  pub place : fiber ≡ outer_place (drop level segs) q
  pub written : drop level path ≡ path_of (drop level segs) (drop level crds) q
  pub before : NotPast fibers segs q

set-drop : (path : List ℕ) (level v : ℕ) → 0 < level → level ≤ length path → drop (level - 1) (set path (level - 1) v) ≡ v ∷ drop level path
set-drop path zero v h k = absurd (omega (arith, h))
set-drop path (suc n) v h k = let one : suc n - 1 ≡ n = omega arith in rw one (drop-set path n v (omega arith) ∙ ap (λ (i : ℕ). v ∷ drop i path) (add-one n))

pub level-done : (segs crds : List (List ℕ)) (ends cs path fibers : List ℕ) (level place q v fiber : ℕ) → 0 < level → level ≤ length path → drop (level - 1) segs ≡ ends ∷ drop level segs → drop (level - 1) crds ≡ cs ∷ drop level crds → place ≡ outer_place (drop level segs) q
    → drop level path ≡ path_of (drop level segs) (drop level crds) q → NotPast fibers segs q → v ≡ get_or cs place 0 → fiber ≡ place_above ends place → Done segs crds (set path (level - 1) v) (set fibers (level - 1) fiber) (level - 1) fiber q
level-done segs crds ends cs path fibers level place q v fiber h k s c p d n e f =
    let here : fiber ≡ outer_place (drop (level - 1) segs) q = rw (s, f, p) refl in
    record {
      place = here;
      written = set-drop path level v h k ∙ rw (s, c, e, p, d) refl;
      before = λ j less. set-below fibers (level - 1) fiber j _ (λ e. rw (e, ← here) (omega arith)) (n j less);
    }
