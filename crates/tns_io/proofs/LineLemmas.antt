-- The line of a value.
use Rattle.std.proofs.Common.{◌≡◌, ℕ, zero, suc, ◌+◌, ◌-◌, ◌<◌, ◌≤◌, Bool, true, false, cond, List, [], ◌∷◌, ◌++◌, length, get_or, drop, refl, ◌∙◌, append_assoc, arith, nat_le, eqb, decimal}
use Rattle.std.proofs.lemmas.List.{drop_more}
use Rattle.std.proofs.lemmas.Bool.{ne_eqb, and_parts, leb-true, ltb-true}
use Rattle.std.specs.List.{list_all, range_with_len}
use mathlib.Core.List.{map}
use Rattle.sam_base.specs.declared.TheConstants.{DIMENSION_MOST}
use Rattle.sam_model.specs.Lists.{coordinate, items_at, within}
use Rattle.sam_model.specs.ResultText.{entry_text}

pub coordinate-on : (order path : List ℕ) (level mode : ℕ) → level < length order → length path ≡ length order → (mode ≡ get_or order level 0 → ⊥)
    → coordinate (drop (level + 1) order) (drop (level + 1) path) mode ≡ coordinate (drop level order) (drop level path) mode
coordinate-on order path level mode h k n =
    let there : level < length path = omega (arith, k) in
    rw (drop_more order level 0 h, drop_more path level 0 there, ne_eqb mode (get_or order level 0) n) refl

modes-next : (f : ℕ → ℕ) (mode levels : ℕ) → mode < levels → map f (range_with_len mode (levels - mode)) ≡ f mode ∷ map f (range_with_len (mode + 1) (levels - (mode + 1)))
modes-next f mode levels h = let more : levels - mode ≡ suc (levels - (mode + 1)) = omega arith in rw more refl

-- a coordinate is written
pub line-on : (order path text : List ℕ) (mode value : ℕ) → mode < length order
    → ((text ++ decimal (coordinate order path mode + 1)) ++ 32 ∷ []) ++ entry_text (map (coordinate order path) (range_with_len (mode + 1) (length order - (mode + 1)))) value
    ≡ text ++ entry_text (map (coordinate order path) (range_with_len mode (length order - mode))) value
line-on order path text mode value h =
    rw (modes-next (coordinate order path) mode (length order) h)
    (append_assoc (text ++ decimal (coordinate order path mode + 1)) (32 ∷ []) _ ∙ append_assoc text (decimal (coordinate order path mode + 1)) _)

item-most : (dims : List ℕ) (k : ℕ) → list_all (λ size. nat_le size DIMENSION_MOST) dims ≡ true → get_or dims k 0 ≤ DIMENSION_MOST
item-most [] k h = omega arith
item-most (d ∷ dims) zero h = leb-true _ _ (and_parts _ _ h).0
item-most (d ∷ dims) (suc k) h = item-most dims k (and_parts _ _ h).1

choose : (t : Bool) (m n b : ℕ) → m < b → n < b → cond t m n < b
choose true m n b h k = h
choose false m n b h k = k

-- the coordinates of a path below the dimensions are below the most that a dimension may be
pub coordinate-most : (dims order stored path : List ℕ) (mode : ℕ) → list_all (λ size. nat_le size DIMENSION_MOST) dims ≡ true → within (items_at dims stored) path ≡ true → coordinate order path mode < DIMENSION_MOST
coordinate-most dims [] stored path mode d w = omega arith
coordinate-most dims (o ∷ order) stored [] mode d w = omega arith
coordinate-most dims (o ∷ order) [] (c ∷ path) mode d w = cc
coordinate-most dims (o ∷ order) (s ∷ stored) (c ∷ path) mode d w =
    let parts = and_parts _ _ w in
    let first : c < get_or dims s 0 = ltb-true _ _ parts.0 in
    let most : get_or dims s 0 ≤ DIMENSION_MOST = item-most dims s d in
    choose (eqb mode o) c (coordinate order path mode) DIMENSION_MOST (omega arith) (coordinate-most dims order stored path mode d parts.1)
