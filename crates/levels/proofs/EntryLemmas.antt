-- The entries of a tensor in storage order.
use Rattle.std.proofs.Common.{◌≡◌, ℕ, zero, suc, ◌+◌, ◌*◌, ◌<◌, ◌≤◌, Bool, true, ◌&&◌, List, [], ◌∷◌, length, take, drop, get_or, ltb, refl, ap, sym, ◌∙◌, subst, arith}
use Rattle.std.specs.Prelude.{slice_index, slice_index_or}
use mathlib.Core.List.{map}
use Rattle.std.proofs.lemmas.Bool.Decides.{nat_tests}
use Rattle.std.proofs.lemmas.List.{get_or-drop, get_or-take, get_or-map, drop-drop, length-map}
use Rattle.std.proofs.lemmas.Nat.{mul-add-lt}
use Rattle.std.proofs.Math.Nat.{mul_comm, mul-le-mul_right}
use Rattle.sam_model.specs.declared.tensors.Tensor.{Tensor}
use Rattle.sam_model.specs.declared.tensors.Entries.{Entries}
use Rattle.sam_model.specs.Lists.{items_at, within}
use Rattle.sam_model.specs.Tensors.{entry_list, stored_as}
use Rattle.sam_base.specs.Each.{Each}
use Rattle.sam_model.proofs.Lists.{Each-mapped}
use Rattle.levels.specs.Matches.{IsStorable, Matches}

-- ---- places in the file's list

place-small : (n m arity many : ℕ) → n < many → m < arity → n * arity + m < many * arity
place-small n m arity many h l = rw (mul_comm many arity) (mul-add-lt n arity m many h l)

pub row-start : (n arity many most : ℕ) → n < many → many * arity < most → n * arity < most
row-start n arity many most h l =
    let k : n * arity ≤ many * arity = mul-le-mul_right arity (omega arith) in
    omega arith

pub row-place : (n m arity many len : ℕ) → n < many → m < arity → len ≡ many * arity → n * arity + m < len
row-place n m arity many len h l e = let k = place-small n m arity many h l in omega arith

pub length-entry_list : (arity : ℕ) (coords values : List ℕ) → length (entry_list arity coords values) ≡ length values
length-entry_list arity coords [] = refl
length-entry_list arity coords (v ∷ values) = ap suc (length-entry_list arity (drop arity coords) values)

pub entry-at : (arity : ℕ) (coords values : List ℕ) (n : ℕ) (d : List ℕ × ℕ) → n < length values → get_or (entry_list arity coords values) n d ≡ (take arity (drop (n * arity) coords), get_or values n 0)
entry-at arity coords [] n d h = absurd (omega arith)
entry-at arity coords (v ∷ values) zero d h =
    let z : 0 ≡ 0 * arity = grind arith in
    ap (λ m. (take arity (drop m coords), v)) z
entry-at arity coords (v ∷ values) (suc n) d h =
    let m : arity + n * arity ≡ suc n * arity = grind arith in
    entry-at arity (drop arity coords) values n d (omega arith)
    ∙ ap (λ t. (take arity t, get_or values n 0)) (drop-drop (n * arity) arity coords ∙ ap (λ k. drop k coords) m)

-- ---- a row is its entry

items-match : (order front xs : List ℕ) → length order ≤ length xs → ((j : ℕ) → j < length order → get_or xs j 0 ≡ get_or front (get_or order j 0) 0) → take (length order) xs ≡ map (λ m. get_or front m 0) order
items-match [] front xs h e = refl
items-match (m ∷ order) front [] h e = absurd (omega arith)
items-match (m ∷ order) front (x ∷ xs) h e =
    let here : x ≡ get_or front m 0 = e 0 (omega arith) in
    let there = items-match order front xs (omega arith) (λ j l. e (suc j) (omega arith)) in
    cc (here, there)

pub row-is : (t : Tensor) (e : Entries) (n : ℕ) (xs : List ℕ) (v : ℕ) → IsStorable t → Matches t e → n < length e.values → length xs ≡ 8
    → ((j : ℕ) → j < length t.order → slice_index xs j ≡ slice_index e.coords (n * e.arity + slice_index t.order j)) → v ≡ slice_index e.values n
    → (take (length t.order) xs, v) ≡ slice_index_or (stored_as t e).entries n ([], 0)
row-is t e n xs v ok fits h long same value =
    let few : length t.order ≤ length xs = (let a = ok.few in let b = ok.levels in omega arith) in
    let inside : n < length (entry_list e.arity e.coords e.values) = rw (length-entry_list e.arity e.coords e.values) h in
    let items : take (length t.order) xs ≡ items_at (take e.arity (drop (n * e.arity) e.coords)) t.order
    = items-match t.order (take e.arity (drop (n * e.arity) e.coords)) xs few
    (λ j l. same j l ∙ sym (get_or-take e.arity (drop (n * e.arity) e.coords) (get_or t.order j 0) 0 (mode j l) ∙ get_or-drop (n * e.arity) e.coords (get_or t.order j 0) 0)) in
    two items value
    ∙ sym (get_or-map (λ entry. (items_at entry.0 t.order, entry.1)) (entry_list e.arity e.coords e.values) n ([], 0) ([], 0) inside
    ∙ ap (λ entry. (items_at entry.0 t.order, entry.1)) (entry-at e.arity e.coords e.values n ([], 0) h))
  where
    mode : (j : ℕ) → j < length t.order → get_or t.order j 0 < e.arity
    mode j l = let a = ok.modes j l in let b = fits.arity in omega arith

    two : {p q : List ℕ} {v w : ℕ} → p ≡ q → v ≡ w → ◌≡◌ {A = List ℕ × ℕ} (p, v) (q, w)
    two e f = cc

-- ---- what holds of the entries

pub Each-from-places : {A : Type 0} (Q : A → Type 0) (d : A) (xs : List A) → ((n : ℕ) → n < length xs → Q (get_or xs n d)) → Each Q xs
Each-from-places Q d [] h = tt
Each-from-places Q d (x ∷ xs) h = (h 0 (omega arith), Each-from-places Q d xs (λ n l. h (suc n) (omega arith)))

inside-sizes : (order dims front : List ℕ) → ((k : ℕ) → k < length order → get_or front (get_or order k 0) 0 < get_or dims (get_or order k 0) 0)
    → within (map (λ m. get_or dims m 0) order) (map (λ m. get_or front m 0) order) ≡ true
inside-sizes [] dims front h = refl
inside-sizes (m ∷ order) dims front h =
    let here = h 0 (omega arith) in
    let there = inside-sizes order dims front (λ k l. h (suc k) (omega arith)) in
    both (get_or front m 0) (get_or dims m 0) (within (map (λ m. get_or dims m 0) order) (map (λ m. get_or front m 0) order)) here there
  where
    both : (a b : ℕ) (c : Bool) → a < b → c ≡ true → (ltb a b && c) ≡ true
    both a b c h e = grind (arith, nat_tests)

pub entries-fit : (t : Tensor) (e : Entries) → IsStorable t → Matches t e
    → Each (λ entry. (length entry.0 ≡ length (items_at t.dims t.order)) × (within (items_at t.dims t.order) entry.0 ≡ true)) (stored_as t e).entries
entries-fit t e ok fits =
    Each-mapped (λ entry. (length entry.0 ≡ length (items_at t.dims t.order)) × (within (items_at t.dims t.order) entry.0 ≡ true)) (λ entry. (items_at entry.0 t.order, entry.1)) (entry_list e.arity e.coords e.values)
    (Each-from-places (λ entry. (length (items_at entry.0 t.order) ≡ length (items_at t.dims t.order)) × (within (items_at t.dims t.order) (items_at entry.0 t.order) ≡ true)) ([], 0) (entry_list e.arity e.coords e.values)
    (λ n h.
    let l : n < length e.values = rw (← length-entry_list e.arity e.coords e.values) h in (
      length-map t.order (λ m. get_or (get_or (entry_list e.arity e.coords e.values) n ([], 0)).0 m 0) ∙ sym (length-map t.order (λ m. get_or t.dims m 0)),
      inside-sizes t.order t.dims (get_or (entry_list e.arity e.coords e.values) n ([], 0)).0 (λ k m. small n l k m),
    )))
  where
    mode : (j : ℕ) → j < length t.order → get_or t.order j 0 < e.arity
    mode j l = let a = ok.modes j l in let b = fits.arity in omega arith

    small : (n : ℕ) → n < length e.values → (k : ℕ) → k < length t.order → get_or (get_or (entry_list e.arity e.coords e.values) n ([], 0)).0 (get_or t.order k 0) 0 < get_or t.dims (get_or t.order k 0) 0
    small n l k m =
        let is = ap (λ entry. get_or entry.0 (get_or t.order k 0) 0) (entry-at e.arity e.coords e.values n ([], 0) l)
        ∙ get_or-take e.arity (drop (n * e.arity) e.coords) (get_or t.order k 0) 0 (mode k m) ∙ get_or-drop (n * e.arity) e.coords (get_or t.order k 0) 0 in
        let bound = fits.within n (get_or t.order k 0) l (mode k m) in
        subst (λ (x : ℕ). x < get_or t.dims (get_or t.order k 0) 0) (sym is) bound

pub length-stored : (t : Tensor) (e : Entries) → length (stored_as t e).entries ≡ length e.values
length-stored t e = length-map (entry_list e.arity e.coords e.values) (λ (entry : List ℕ × ℕ). (items_at entry.0 t.order, entry.1)) ∙ length-entry_list e.arity e.coords e.values
