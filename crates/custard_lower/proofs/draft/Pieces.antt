-- What stands where in lists that are joined of pieces, and in filtered lists.
use Rattle.std.specs.Prelude.{◌≡◌, ◌<◌, ◌≤◌, ℕ, zero, suc, ◌+◌, ◌-◌, Bool, true, false, cond, List, [], ◌∷◌, ◌++◌, length, get_or, take, drop, refl}
use Rattle.std.specs.List.{flat_map, filter, sum_by, range_with_len}
use Rattle.std.proofs.Common.{inl, inr, arith, sym, ◌∙◌, ap, length-append, append_assoc}
use Rattle.std.proofs.lemmas.Bool.{cases_lt}
use Rattle.std.proofs.lemmas.List.{append-nil, take_at, drop_at, take_more, get_or_append_left, get_or-append-add}
use Rattle.std.proofs.lemmas.List.Sums.{sum_by_push}
use Rattle.std.proofs.lemmas.List.Concat.{flat_map-append}

-- ---- pieces

-- how many items the pieces before the k-th have
abbrev pub before : {A : Type 0} → (ℕ → List A) → ℕ → ℕ
before f k = length (flat_map f (range_with_len 0 k))

-- the pieces before one, it, and the rest
split : {A : Type 0} (f : ℕ → List A) (a n k : ℕ) → k < n
    → (rest : List A) × (flat_map f (range_with_len a n) ≡ flat_map f (range_with_len a k) ++ (f (a + k) ++ rest))
split f a zero k l = absurd (omega (arith, l))
split {A = A} f a (suc n) zero l =
    let here : a + 0 ≡ a = omega arith in
    (flat_map f (range_with_len (a + 1) n), ap (λ (x : ℕ). f x ++ flat_map f (range_with_len (a + 1) n)) (sym here))
split {A = A} f a (suc n) (suc k) l =
    let r = split f (a + 1) n k (omega (arith, l)) in
    let same : (a + 1) + k ≡ a + suc k = omega arith in (
      r.0,
      ap (λ (xs : List A). f a ++ xs) r.1
          ∙ ap (λ (x : ℕ). f a ++ (flat_map f (range_with_len (a + 1) k) ++ (f x ++ r.0))) same
          ∙ sym (append_assoc (f a) (flat_map f (range_with_len (a + 1) k)) (f (a + suc k) ++ r.0)),
    )

-- the j-th item of the k-th piece
pub item-of-piece : {A : Type 0} (f : ℕ → List A) (n k j : ℕ) (d : A) → k < n → j < length (f k)
    → get_or (flat_map f (range_with_len 0 n)) (before f k + j) d ≡ get_or (f k) j d
item-of-piece {A = A} f n k j d l m =
    let s = split f 0 n k l in
    let same : 0 + k ≡ k = omega arith in
    let e : flat_map f (range_with_len 0 n) ≡ flat_map f (range_with_len 0 k) ++ (f k ++ s.0) =
    s.1 ∙ ap (λ (x : ℕ). flat_map f (range_with_len 0 k) ++ (f x ++ s.0)) same in
    ap (λ (xs : List A). get_or xs (before f k + j) d) e
    ∙ get_or-append-add (flat_map f (range_with_len 0 k)) (f k ++ s.0) j d
    ∙ get_or_append_left (f k) s.0 d j m

-- an item of a piece is among all items
pub piece-within : {A : Type 0} (f : ℕ → List A) (n k j : ℕ) → k < n → j < length (f k)
    → before f k + j < length (flat_map f (range_with_len 0 n))
piece-within {A = A} f n k j l m =
    let s = split f 0 n k l in
    let same : 0 + k ≡ k = omega arith in
    let e : length (flat_map f (range_with_len 0 n)) ≡ length (flat_map f (range_with_len 0 k) ++ (f k ++ s.0)) =
    ap (λ (xs : List A). length xs) (s.1 ∙ ap (λ (x : ℕ). flat_map f (range_with_len 0 k) ++ (f x ++ s.0)) same) in
    let outer = length-append (flat_map f (range_with_len 0 k)) (f k ++ s.0) in
    let inner = length-append (f k) s.0 in
    omega (arith, e, outer, inner, m)

-- the k-th piece, cut out
pub piece-taken : {A : Type 0} (f : ℕ → List A) (n k : ℕ) → k < n
    → take (length (f k)) (drop (before f k) (flat_map f (range_with_len 0 n))) ≡ f k
piece-taken {A = A} f n k l =
    let s = split f 0 n k l in
    let same : 0 + k ≡ k = omega arith in
    ap (λ (xs : List A). take (length (f k)) (drop (before f k) xs))
    (s.1 ∙ ap (λ (x : ℕ). flat_map f (range_with_len 0 k) ++ (f x ++ s.0)) same)
    ∙ ap (λ (xs : List A). take (length (f k)) xs) (drop_at (flat_map f (range_with_len 0 k)) (f k ++ s.0) (before f k) refl)
    ∙ take_at (f k) s.0 (length (f k)) refl

-- an item is one of a piece
pub record InPiece {A : Type 0} (f : ℕ → List A) (n i : ℕ) : Type 0 where
  pub piece : ℕ
  pub place : ℕ
  pub piece_in : piece < n
  pub place_in : place < length (f piece)
  pub stands : i ≡ before f piece + place

-- one number more
pub range-more : (a n : ℕ) → range_with_len a (suc n) ≡ range_with_len a n ++ ((a + n) ∷ [])
range-more a zero = let e : a ≡ a + 0 = omega arith in ap (λ (x : ℕ). x ∷ []) e
range-more a (suc n) =
    let e : (a + 1) + n ≡ a + suc n = omega arith in
    ap (λ (xs : List ℕ). a ∷ xs) (range-more (a + 1) n)
    ∙ ap (λ (x : ℕ). a ∷ (range_with_len (a + 1) n ++ (x ∷ []))) e

-- one piece more
pub pieces-more : {A : Type 0} (f : ℕ → List A) (n : ℕ)
    → flat_map f (range_with_len 0 (suc n)) ≡ flat_map f (range_with_len 0 n) ++ f n
pieces-more {A = A} f n =
    let e : 0 + n ≡ n = omega arith in
    ap (flat_map f) (range-more 0 n)
    ∙ flat_map-append f (range_with_len 0 n) ((0 + n) ∷ [])
    ∙ ap (λ (xs : List A). flat_map f (range_with_len 0 n) ++ xs) (append-nil (f (0 + n)))
    ∙ ap (λ (x : ℕ). flat_map f (range_with_len 0 n) ++ f x) e

-- how many items come before the next piece
pub before-more : {A : Type 0} (f : ℕ → List A) (n : ℕ) → before f (suc n) ≡ before f n + length (f n)
before-more {A = A} f n =
    ap (λ (xs : List A). length xs) (pieces-more f n) ∙ length-append (flat_map f (range_with_len 0 n)) (f n)

-- more items come before a later piece
pub before-rises : {A : Type 0} (f : ℕ → List A) (m n : ℕ) → m ≤ n → before f m ≤ before f n
before-rises f m zero l = let e : m ≡ 0 = omega (arith, l) in omega (arith, ap (before f) e)
before-rises f m (suc n) l =
    elim (cases_lt n m) [
      | inl top ↦ let e : m ≡ suc n = omega (arith, l, top) in omega (arith, ap (before f) e)
      | inr less ↦ omega (arith, before-rises f m n less, before-more f n)
    ]

-- each item is one of a piece
pub in-piece : {A : Type 0} (f : ℕ → List A) (n i : ℕ) → i < before f n → InPiece f n i
in-piece f zero i l = absurd (omega (arith, l))
in-piece f (suc n) i l =
    elim (cases_lt i (before f n)) [
      | inl less ↦ let r = in-piece f n i less in
          record {
            piece = r.piece;
            place = r.place;
            piece_in = omega (arith, r.piece_in);
            place_in = r.place_in;
            stands = r.stands;
          }
      | inr past ↦ record {
        piece = n;
        place = i - before f n;
        piece_in = omega arith;
        place_in = omega (arith, past, l, before-more f n);
        stands = omega (arith, past);
      }
    ]

-- a sum over one number more
pub sum-more : (c : ℕ → ℕ) (n : ℕ) → sum_by c (range_with_len 0 (suc n)) ≡ sum_by c (range_with_len 0 n) + c n
sum-more c n =
    let here : 0 + n ≡ n = omega arith in
    ap (sum_by c) (range-more 0 n) ∙ sum_by_push c (range_with_len 0 n) (0 + n)
    ∙ ap (λ (k : ℕ). sum_by c (range_with_len 0 n) + c k) here

-- how many items come before, by the lengths of the pieces
pub before-sum : {A : Type 0} (f : ℕ → List A) (c : ℕ → ℕ) → ((k : ℕ) → length (f k) ≡ c k) → (n : ℕ)
    → before f n ≡ sum_by c (range_with_len 0 n)
before-sum f c e zero = refl
before-sum f c e (suc n) = omega (arith, before-more f n, before-sum f c e n, sum-more c n, e n)

-- pieces of the same lengths have as many items before them
pub before-same : {A B : Type 0} (f : ℕ → List A) (g : ℕ → List B) → ((k : ℕ) → length (f k) ≡ length (g k)) → (n : ℕ)
    → before f n ≡ before g n
before-same f g e zero = refl
before-same f g e (suc n) = omega (arith, before-more f n, before-more g n, before-same f g e n, e n)

-- pieces of the items of a list
pub pieces-of-items : {A B : Type 0} (f : A → List B) (xs : List A) (d : A) (n : ℕ) → n ≤ length xs
    → flat_map (λ k. f (get_or xs k d)) (range_with_len 0 n) ≡ flat_map f (take n xs)
pieces-of-items f xs d zero l = refl
pieces-of-items {B = B} f xs d (suc n) l =
    let e : n + 1 ≡ suc n = omega arith in
    pieces-more (λ k. f (get_or xs k d)) n
    ∙ ap (λ (ys : List B). ys ++ f (get_or xs n d)) (pieces-of-items f xs d n (omega (arith, l)))
    ∙ ap (λ (ys : List B). flat_map f (take n xs) ++ ys) (sym (append-nil (f (get_or xs n d))))
    ∙ sym (flat_map-append f (take n xs) (get_or xs n d ∷ []))
    ∙ ap (flat_map f) (sym (take_more xs n d (omega (arith, l))))
    ∙ ap (λ (m : ℕ). flat_map f (take m xs)) e

-- ---- filters

-- of what passes: how much of it stands before place k
abbrev pub passed : {A : Type 0} → (A → Bool) → List A → ℕ → ℕ
passed test xs k = length (filter test (take k xs))

first_passed : {A : Type 0} (b : Bool) (x : A) (ys : List A) (d : A) → b ≡ true
    → (0 < length (cond b (x ∷ ys) ys)) × (get_or (cond b (x ∷ ys) ys) 0 d ≡ x)
first_passed true x ys d e = (omega arith, refl)
first_passed false x ys d e = absurd (cc)

later_passed : {A : Type 0} (b : Bool) (x y : A) (ys zs : List A) (d : A) → length zs < length ys → get_or ys (length zs) d ≡ y
    → (length (cond b (x ∷ zs) zs) < length (cond b (x ∷ ys) ys))
    × (get_or (cond b (x ∷ ys) ys) (length (cond b (x ∷ zs) zs)) d ≡ y)
later_passed true x y ys zs d l e = (omega (arith, l), e)
later_passed false x y ys zs d l e = (l, e)

-- an item that passes stands among those that pass, after those before it
pub item-of-filter : {A : Type 0} (test : A → Bool) (xs : List A) (k : ℕ) (d : A) → k < length xs → test (get_or xs k d) ≡ true
    → (passed test xs k < length (filter test xs)) × (get_or (filter test xs) (passed test xs k) d ≡ get_or xs k d)
item-of-filter test [] k d l e = absurd (omega (arith, l))
item-of-filter test (x ∷ xs) zero d l e = first_passed (test x) x (filter test xs) d e
item-of-filter test (x ∷ xs) (suc k) d l e =
    let r = item-of-filter test xs k d (omega (arith, l)) e in
    later_passed (test x) x (get_or xs k d) (filter test xs) (filter test (take k xs)) d r.0 r.1

-- an item of those that pass is an item that passes
pub record InFilter {A : Type 0} (test : A → Bool) (xs : List A) (d : A) (i : ℕ) : Type 0 where
  pub place : ℕ
  pub place_in : place < length xs
  pub passes : test (get_or xs place d) ≡ true
  pub stands : i ≡ passed test xs place
  pub same : get_or (filter test xs) i d ≡ get_or xs place d

in_more : {A : Type 0} (test : A → Bool) (x : A) (xs : List A) (d : A) (i : ℕ) (b : Bool) → test x ≡ b
    → ((j : ℕ) → j < length (filter test xs) → InFilter test xs d j)
    → i < length (cond b (x ∷ filter test xs) (filter test xs)) → InFilter test (x ∷ xs) d i
in_more test x xs d zero true e found l = record {
  place = 0;
  place_in = omega arith;
  passes = e;
  stands = refl;
  same = rw e refl;
}
in_more test x xs d (suc i) true e found l =
    let r = found i (omega (arith, l)) in
    record {
      place = suc r.place;
      place_in = omega (arith, r.place_in);
      passes = r.passes;
      stands = rw e (ap suc r.stands);
      same = rw e r.same;
    }
in_more test x xs d i false e found l =
    let r = found i l in
    record {
      place = suc r.place;
      place_in = omega (arith, r.place_in);
      passes = r.passes;
      stands = rw e r.stands;
      same = rw e r.same;
    }

-- each item that is kept is one of the list
pub in-filter : {A : Type 0} (test : A → Bool) (xs : List A) (d : A) (i : ℕ) → i < length (filter test xs) → InFilter test xs d i
in-filter test [] d i l = absurd (omega (arith, l))
in-filter test (x ∷ xs) d i l = in_more test x xs d i (test x) refl (in-filter test xs d) l
