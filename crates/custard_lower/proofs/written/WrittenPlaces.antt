-- One level of a written result: the ends of lists in a row, and the list that a place is in.
use Rattle.std.specs.Prelude.{◌≡◌, ◌<◌, ◌≤◌, ℕ, zero, suc, ◌+◌, ◌-◌, Bool, true, false, cond, List, [], ◌∷◌, ◌++◌, length, get_or, nat_le, refl}
use Rattle.std.specs.List.{flat_map, prefix_len}
use Rattle.std.specs.List.Sorted.{IsNonDecreasing}
use mathlib.Core.List.{map}
use Rattle.std.proofs.Common.{arith, sym, ◌∙◌, ap, subst, length-append, ◌⊎◌, inl, inr}
use Rattle.std.proofs.lemmas.Bool.{cases_lt, le-leb, lt-leb}
use Rattle.std.proofs.lemmas.List.{length-map, get_or_append_left, get_or-append_right}
use Rattle.stream_tokens.specs.Shapes.{Each}
use Rattle.sam_model.specs.Listing.{LevelInRange, place_above}

-- how many items there are up to the end of each list, after `count` items
abbrev pub running_ends : {A : Type 0} → ℕ → List (List A) → List ℕ
running_ends count [] = []
running_ends count (xs ∷ xss) = (count + length xs) ∷ running_ends (count + length xs) xss

-- the ends of a level that has a list beneath each place above
abbrev pub ends_of : {A : Type 0} → List (List A) → List ℕ
ends_of xss = 0 ∷ running_ends 0 xss

-- they depend on the lengths alone
pub running-mapped : {A B C : Type 0} (g : A → B → C) (f : A → List B) (count : ℕ) (xs : List A)
    → running_ends count (map (λ x. map (g x) (f x)) xs) ≡ running_ends count (map f xs)
running-mapped g f count [] = refl
running-mapped g f count (x ∷ xs) =
    rw (length-map (f x) (g x), running-mapped g f (count + length (f x)) xs) refl

-- ---- in range

length_ends : {A : Type 0} (count : ℕ) (xss : List (List A)) → length (running_ends count xss) ≡ length xss
length_ends count [] = refl
length_ends count (xs ∷ xss) = ap suc (length_ends (count + length xs) xss)

last_end : {A B : Type 0} (f : A → List B) (count : ℕ) (xs : List A)
    → get_or (count ∷ running_ends count (map f xs)) (length xs) 0 ≡ count + length (flat_map f xs)
last_end f count [] = omega arith
last_end f count (x ∷ xs) =
    let rest = last_end f (count + length (f x)) xs in
    rest ∙ omega (arith, length-append (f x) (flat_map f xs))

least_end : {A : Type 0} (count : ℕ) (xss : List (List A)) (j d : ℕ) → j < length xss
    → count ≤ get_or (running_ends count xss) j d
least_end count [] j d h = absurd (omega (arith, h))
least_end count (xs ∷ xss) zero d h = omega arith
least_end count (xs ∷ xss) (suc j) d h =
    let more = least_end (count + length xs) xss j d (omega (arith, h)) in
    omega (arith, more)

ascending : {A : Type 0} (count : ℕ) (xss : List (List A)) → IsNonDecreasing (count ∷ running_ends count xss)
ascending count xss zero zero d h k = omega arith
ascending count xss zero (suc j) d h k = least_end count xss j d (omega (arith, k, length_ends count xss))
ascending count xss (suc i) zero d h k = absurd (omega (arith, h))
ascending count [] (suc i) (suc j) d h k = absurd (omega (arith, k))
ascending count (xs ∷ xss) (suc i) (suc j) d h k =
    ascending (count + length xs) xss i j d (omega (arith, h)) (omega (arith, k))

-- a level that has the list f x beneath each place x above is in range, where it has as many coordinates
pub level-range : {A B : Type 0} (f : A → List B) (xs : List A) (coordinates : List ℕ)
    → length coordinates ≡ length (flat_map f xs)
    → LevelInRange (length xs) (ends_of (map f xs)) coordinates
level-range f xs coordinates h = record {
  count = ap suc (length_ends 0 (map f xs) ∙ length-map xs f);
  first = refl;
  last = last_end f 0 xs ∙ omega (arith, h);
  ascending = ascending 0 (map f xs);
}

-- ---- places

each_at : {A : Type 0} (Q : A → Type 0) (xs : List A) (n : ℕ) (d : A) → Each Q xs → n < length xs → Q (get_or xs n d)
each_at Q [] n d e h = absurd (omega (arith, h))
each_at Q (x ∷ xs) zero d e h = e.0
each_at Q (x ∷ xs) (suc n) d e h = each_at Q xs n d e.1 (omega (arith, h))

-- the list that item q of these is in, where `count` items come before them
abbrev place_after : {A : Type 0} → ℕ → List (List A) → ℕ → ℕ
place_after count xss q = prefix_len (λ end. nat_le end q) (running_ends count xss)

-- item q of ys is in the list of this place of xs, so R holds of both
record InList {A B : Type 0} (R : A → B → Type 0) (xs : List A) (ys : List B) (place q : ℕ) (a : A) (b : B) : Type 0 where
  there : place < length xs
  holds : R (get_or xs place a) (get_or ys q b)

-- an item of the first list, or of a later one
in_first : {A B : Type 0} (R : A → B → Type 0) (x : A) (xs : List A) (first later : List B) (q : ℕ) (a : A) (b : B)
    → Each (R x) first → q < length first → InList R (x ∷ xs) (first ++ later) 0 q a b
in_first R x xs first later q a b e h = record {
  there = omega arith;
  holds = subst (R x) (sym (get_or_append_left first later b q h)) (each_at (R x) first q b e h);
}

in_later : {A B : Type 0} (R : A → B → Type 0) (x : A) (xs : List A) (first later : List B) (place q : ℕ) (a : A) (b : B)
    → length first ≤ q → InList R xs later place (q - length first) a b → InList R (x ∷ xs) (first ++ later) (suc place) q a b
in_later R x xs first later place q a b h r = record {
  there = omega (arith, r.there);
  holds = subst (R (get_or xs place a)) (sym (get_or-append_right first later (length first) q b refl h)) r.holds;
}

in_list : {A B : Type 0} (f : A → List B) (R : A → B → Type 0) → ((x : A) → Each (R x) (f x))
    → (xs : List A) (count q : ℕ) (a : A) (b : B) → count ≤ q → q < count + length (flat_map f xs)
    → InList R xs (flat_map f xs) (place_after count (map f xs) q) (q - count) a b
in_list f R each [] count q a b h k = absurd (omega (arith, h, k))
in_list f R each (x ∷ xs) count q a b h k =
    by_case (cases_lt q (count + length (f x))) (in_list f R each xs (count + length (f x)) q a b)
  where
    place : ℕ
    place = place_after (count + length (f x)) (map f xs) q

    Found : Bool → Type 0
    Found ended = InList R (x ∷ xs) (f x ++ flat_map f xs) (cond ended (1 + place) 0) (q - count) a b

    here : q < count + length (f x) → Found false
    here less = in_first R x xs (f x) (flat_map f xs) (q - count) a b (each x) (omega (arith, less, h))

    behind : count + length (f x) ≤ q → InList R xs (flat_map f xs) place (q - (count + length (f x))) a b → Found true
    behind more r =
        let left : q - (count + length (f x)) ≡ q - count - length (f x) = omega arith in
        let next : suc place ≡ 1 + place = omega arith in
        subst (λ (n : ℕ). InList R (x ∷ xs) (f x ++ flat_map f xs) n (q - count) a b) next
        (in_later R x xs (f x) (flat_map f xs) place (q - count) a b (omega (arith, more))
        (subst (λ (n : ℕ). InList R xs (flat_map f xs) place n a b) left r))

    by_case : (q < count + length (f x)) ⊎ (count + length (f x) ≤ q)
        → (count + length (f x) ≤ q → q < count + length (f x) + length (flat_map f xs)
        → InList R xs (flat_map f xs) place (q - (count + length (f x))) a b)
        → Found (nat_le (count + length (f x)) q)
    by_case (inl less) r = subst Found (sym (lt-leb (count + length (f x)) q less)) (here less)
    by_case (inr more) r =
        let less : q < count + length (f x) + length (flat_map f xs) = omega (arith, k, length-append (f x) (flat_map f xs)) in
        subst Found (sym (le-leb (count + length (f x)) q more)) (behind more (r more less))

-- In a level that has the list f x beneath each place x above: an item is in the list of its place above, so what holds of
-- each x and each item of f x holds of both.
pub place-above : {A B : Type 0} (f : A → List B) (R : A → B → Type 0) → ((x : A) → Each (R x) (f x))
    → (xs : List A) (q : ℕ) (a : A) (b : B) → q < length (flat_map f xs)
    → (place_above (ends_of (map f xs)) q < length xs)
    × R (get_or xs (place_above (ends_of (map f xs)) q) a) (get_or (flat_map f xs) q b)
place-above f R each xs q a b h =
    let found = in_list f R each xs 0 q a b (omega arith) (omega (arith, h)) in
    let same : q - 0 ≡ q = omega arith in (
      found.there,
      subst (λ (n : ℕ). R (get_or xs (place_after 0 (map f xs) q) a) (get_or (flat_map f xs) n b)) same found.holds,
    )
