-- Lists that are made by pushing what stands at each place in turn, and items that are read in turn.
use Rattle.std.specs.Prelude.{◌≡◌, ◌<◌, ℕ, suc, ◌+◌, List, [], ◌∷◌, ◌++◌, length, get_or}
use Rattle.std.specs.List.{flat_map, range_with_len}
use mathlib.Core.List.{map}
use Rattle.std.proofs.Common.{arith, sym, ◌∙◌, ap, append_assoc}
use Rattle.std.proofs.lemmas.List.{get_or_default}
use Rattle.std.proofs.lemmas.List.FromFn.{map-range_with_len_more, fill_by_all, length-map-range_with_len, get_or-map-range_with_len}
use Rattle.custard_lower.proofs.draft.Pieces.{pieces-more}

-- the item at one more place
pub item-pushed : {A : Type 0} (f : ℕ → A) (init xs ys : List A) (n : ℕ) (x : A) → xs ≡ init ++ map f (range_with_len 0 n)
    → ys ≡ xs ++ (x ∷ []) → x ≡ f n → ys ≡ init ++ map f (range_with_len 0 (n + 1))
item-pushed {A = A} f init xs ys n x before push e =
    push
    ∙ ap (λ (zs : List A). zs ++ (x ∷ [])) before
    ∙ append_assoc init (map f (range_with_len 0 n)) (x ∷ [])
    ∙ ap (λ (y : A). init ++ (map f (range_with_len 0 n) ++ (y ∷ []))) e
    ∙ ap (λ (zs : List A). init ++ zs) (sym (map-range_with_len_more f 0 n n (omega arith)))

-- the items of one more piece
pub piece-pushed : {A : Type 0} (f : ℕ → List A) (init xs ys piece : List A) (n : ℕ)
    → xs ≡ init ++ flat_map f (range_with_len 0 n)
    → ys ≡ xs ++ piece → piece ≡ f n → ys ≡ init ++ flat_map f (range_with_len 0 (n + 1))
piece-pushed {A = A} f init xs ys piece n before push e =
    let next : suc n ≡ n + 1 = omega arith in
    push
    ∙ ap (λ (zs : List A). zs ++ piece) before
    ∙ append_assoc init (flat_map f (range_with_len 0 n)) piece
    ∙ ap (λ (zs : List A). init ++ (flat_map f (range_with_len 0 n) ++ zs)) e
    ∙ ap (λ (zs : List A). init ++ zs) (sym (pieces-more f n))
    ∙ ap (λ (k : ℕ). init ++ flat_map f (range_with_len 0 k)) next

-- an item that is read is the list's
pub item-read : {A : Type 0} (xs items : List A) (n : ℕ) (x d : A) → items ≡ xs → x ≡ get_or items n x → n < length items
    → x ≡ get_or xs n d
item-read {A = A} xs items n x d e is l = is ∙ get_or_default items n x d l ∙ ap (λ (ys : List A). get_or ys n d) e

-- items that agree at each place
pub same-items : {A : Type 0} (f g : ℕ → A) (n : ℕ) → ((k : ℕ) → k < n → f k ≡ g k)
    → map f (range_with_len 0 n) ≡ map g (range_with_len 0 n)
same-items f g n h =
    fill_by_all g (map f (range_with_len 0 n)) n (f 0) (length-map-range_with_len f 0 n)
    (λ k l. get_or-map-range_with_len f 0 n k k (f 0) l (omega arith) ∙ h k l)
