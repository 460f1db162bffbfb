-- Pairs, part by part.
use Rattle.std.proofs.Common.{◌≡◌, ◌∙◌, ◌<◌, ◌+◌, ◌++◌, ℕ, ap, sym, refl, List, [], ◌∷◌, length, take, drop, get_or, Some, None, map, suc}
use Rattle.std.specs.Prelude.{Option, option_map}
use Rattle.std.proofs.lemmas.List.{take_more, map-append, take-append-drop}
use Rattle.std.proofs.lemmas.Simd.{map-map}
use Rattle.std.proofs.Math.Seq.{drop-cons}
use Rattle.std.specs.Prelude.{option_and_then}
use Rattle.std.specs.Borrow.{Bor}
use Rattle.std.specs.List.{slice_split}
use Rattle.std.specs.Prelude.{◌==◌}
use Rattle.words.specs.Asked.{all_read, distinct_pairs, pair_of, pairs_of}

after : {B : Type 0} (x : B) (xs : List (Option B)) (ys : List B) (y : B) (r : Option (List B)) → all_read xs ≡ r → option_map (λ zs. x ∷ zs) r ≡ Some ys
    → ((zs : List B) → all_read xs ≡ Some zs → all_read (xs ++ Some y ∷ []) ≡ Some (zs ++ y ∷ [])) → option_map (λ zs. x ∷ zs) (all_read (xs ++ Some y ∷ [])) ≡ Some (ys ++ y ∷ [])
after x xs ys y None got so more = cc
after x xs ys y (Some zs) got so more =
    let this : x ∷ zs ≡ ys = cc in
    ap (option_map (λ l. x ∷ l)) (more zs got) ∙ ap (λ l. Some (l ++ y ∷ [])) this

all_read-last : {B : Type 0} (xs : List (Option B)) (ys : List B) (y : B) → all_read xs ≡ Some ys → all_read (xs ++ Some y ∷ []) ≡ Some (ys ++ y ∷ [])
all_read-last [] [] y so_far = refl
all_read-last [] (z ∷ zs) y so_far = cc
all_read-last (None ∷ xs) ys y so_far = cc
all_read-last (Some x ∷ xs) ys y so_far = after x xs ys y (all_read xs) refl so_far (λ zs got. all_read-last xs zs y got)

all_read-stops : {B : Type 0} (xs ys : List (Option B)) → all_read (xs ++ None ∷ ys) ≡ None
all_read-stops [] ys = refl
all_read-stops (None ∷ xs) ys = refl
all_read-stops (Some x ∷ xs) ys = ap (option_map (λ zs. x ∷ zs)) (all_read-stops xs ys)

-- one more part, as at a step of a loop
pub all_read-more : {A B : Type 0} (f : A → Option B) (xs : List A) (i : ℕ) (d : A) (ys : List B) (y : B) → i < length xs → all_read (map f (take i xs)) ≡ Some ys
    → f (get_or xs i d) ≡ Some y → all_read (map f (take (i + 1) xs)) ≡ Some (ys ++ y ∷ [])
all_read-more f xs i d ys y inside so_far next =
    ap (λ l. all_read (map f l)) (take_more xs i d inside)
    ∙ ap all_read (map-append f (take i xs) (get_or xs i d ∷ []))
    ∙ ap (λ o. all_read (map f (take i xs) ++ o ∷ [])) next
    ∙ all_read-last (map f (take i xs)) ys y so_far

-- a part that is none
pub all_read-none : {A B : Type 0} (f : A → Option B) (xs : List A) (i : ℕ) (d : A) → i < length xs → f (get_or xs i d) ≡ None → all_read (map f xs) ≡ None
all_read-none f xs i d inside none =
    ap (λ l. all_read (map f l)) (sym (take-append-drop i xs))
    ∙ ap all_read (map-append f (take i xs) (drop i xs))
    ∙ ap (λ l. all_read (map f (take i xs) ++ map f l)) (drop-cons xs i d inside)
    ∙ ap (λ o. all_read (map f (take i xs) ++ o ∷ map f (drop (suc i) xs))) none
    ∙ all_read-stops (map f (take i xs)) (map f (drop (suc i) xs))

pub pairs_in : (text : List ℕ) (parts : List (Bor (List ℕ))) (pairs : Option (List (ℕ × ℕ))) → map (λ part. part.now) parts ≡ slice_split (λ b. b == 44) text
    → pairs ≡ all_read (map (λ part. pair_of part.now) parts) → option_and_then distinct_pairs pairs ≡ pairs_of text
pairs_in text parts pairs split read =
    ap (option_and_then distinct_pairs) (read ∙ ap all_read (sym (map-map pair_of (λ (part : Bor (List ℕ)). part.now) parts) ∙ ap (map pair_of) split))
