-- What fill lays beneath a presence, where the presence and the ports come from one list of fibers.
use Rattle.std.specs.Prelude.{◌≡◌, ℕ, suc, ◌+◌, Bool, true, false, cond, List, [], ◌∷◌, ◌++◌, Some, None, length, refl}
use Rattle.std.specs.List.{filter, flat_map}
use mathlib.Core.List.{map}
use Rattle.std.proofs.Common.{sym, ◌∙◌, ap, length-append}
use Rattle.std.proofs.lemmas.List.{map-append}
use Rattle.std.proofs.lemmas.List.Elements.{filter-append}
use Rattle.stream_tokens.specs.Nest.{Leaf, Fiber, spread, beneath}
use Rattle.stream_tokens.specs.Shapes.{on_tokens, beneath_by, under}
use Rattle.block_core.specs.DropFiber.{is_nonempty}
use Rattle.block_core.proofs.FillReadings.{contents}
use Rattle.block_core.proofs.FillGiven.{item_count, present, left_over, laid_lists, laid}

-- all elements of all fibers
abbrev pub all_elements : {A : Type 0} → List (Fiber A) → List A
all_elements fs = flat_map (λ f. f.0) fs

-- an item where the side has it, and nothing elsewhere
abbrev pub marked_by : {A : Type 0} → (A → Bool) → (A → ℕ) → A → Leaf
marked_by side x a = cond (side a) (Some (x a)) None

-- the side's list where the side has it
abbrev pub side_list : {A : Type 0} → (A → Bool) → (A → List ℕ) → A → List ℕ
side_list side g a = cond (side a) (g a) []

lists-of-side : {A : Type 0} (side : A → Bool) (x : A → ℕ) (g : A → List ℕ) (xs more : List A)
    → laid_lists (map (marked_by side x) xs) (map g (filter side (xs ++ more))) ≡ map (side_list side g) xs
lists-of-side side x g [] more = refl
lists-of-side {A = A} side x g (a ∷ xs) more = by_case (lists-of-side side x g xs more) (side a)
  where
    by_case : laid_lists (map (marked_by side x) xs) (map g (filter side (xs ++ more))) ≡ map (side_list side g) xs → (b : Bool)
        → laid_lists (cond b (Some (x a)) None ∷ map (marked_by side x) xs) (map g (cond b (a ∷ filter side (xs ++ more)) (filter side (xs ++ more))))
        ≡ cond b (g a) [] ∷ map (side_list side g) xs
    by_case e true = ap (λ (y : List (List ℕ)). g a ∷ y) e
    by_case e false = ap (λ (y : List (List ℕ)). [] ∷ y) e

left_of-side : {A : Type 0} (side : A → Bool) (x : A → ℕ) (g : A → List ℕ) (xs more : List A)
    → left_over (map (marked_by side x) xs) (map g (filter side (xs ++ more))) ≡ map g (filter side more)
left_of-side side x g [] more = refl
left_of-side side x g (a ∷ xs) more = by_case (left_of-side side x g xs more) (side a)
  where
    by_case : left_over (map (marked_by side x) xs) (map g (filter side (xs ++ more))) ≡ map g (filter side more) → (b : Bool)
        → left_over (cond b (Some (x a)) None ∷ map (marked_by side x) xs) (map g (cond b (a ∷ filter side (xs ++ more)) (filter side (xs ++ more))))
        ≡ map g (filter side more)
    by_case e true = e
    by_case e false = e

pub laid-under : {A : Type 0} (side : A → Bool) (x : A → ℕ) (g : A → List ℕ) (fs : List (Fiber A))
    → laid (on_tokens (marked_by side x) fs) (map g (filter side (all_elements fs))) ≡ under (side_list side g) fs
laid-under side x g [] = refl
laid-under side x g (f ∷ fs) =
    ap (λ (y : List (List ℕ)). beneath (y, f.1) ++ laid (on_tokens (marked_by side x) fs) (left_over (map (marked_by side x) f.0) (map g (filter side (f.0 ++ all_elements fs)))))
    (lists-of-side side x g f.0 (all_elements fs))
    ∙ ap (λ (y : List (Fiber ℕ)). beneath (map (side_list side g) f.0, f.1) ++ y)
    (ap (laid (on_tokens (marked_by side x) fs)) (left_of-side side x g f.0 (all_elements fs)) ∙ laid-under side x g fs)

-- as many items as the side has elements
among-side : {A : Type 0} (side : A → Bool) (x : A → ℕ) (xs : List A) → item_count (map (marked_by side x) xs) ≡ length (filter side xs)
among-side side x [] = refl
among-side side x (a ∷ xs) = by_case (among-side side x xs) (side a)
  where
    by_case : item_count (map (marked_by side x) xs) ≡ length (filter side xs) → (b : Bool)
        → item_count (cond b (Some (x a)) None ∷ map (marked_by side x) xs) ≡ length (cond b (a ∷ filter side xs) (filter side xs))
    by_case e true = ap suc e
    by_case e false = e

pub present-side : {A : Type 0} (side : A → Bool) (x : A → ℕ) (fs : List (Fiber A))
    → present (on_tokens (marked_by side x) fs) ≡ length (filter side (all_elements fs))
present-side side x [] = refl
present-side side x (f ∷ fs) =
    rw (among-side side x f.0, present-side side x fs)
    (sym (ap (λ (y : List _). length y) (filter-append side f.0 (all_elements fs)) ∙ length-append (filter side f.0) (filter side (all_elements fs))))

-- ---- the fibers of a port that aren't empty

contents-both : (fs gs : List (Fiber ℕ)) → contents (fs ++ gs) ≡ contents fs ++ contents gs
contents-both [] gs = refl
contents-both (([], n) ∷ fs) gs = contents-both fs gs
contents-both (((x ∷ xs), n) ∷ fs) gs = ap (λ (y : List (List ℕ)). (x ∷ xs) ∷ y) (contents-both fs gs)

contents-spread : (x : List ℕ) (xs : List (List ℕ)) (n : ℕ) → contents (spread x xs n) ≡ filter is_nonempty (x ∷ xs)
contents-spread [] [] n = refl
contents-spread (y ∷ ys) [] n = refl
contents-spread [] (z ∷ zs) n = contents-spread z zs n
contents-spread (y ∷ ys) (z ∷ zs) n = ap (λ (w : List (List ℕ)). (y ∷ ys) ∷ w) (contents-spread z zs n)

contents-beneath : (xs : List (List ℕ)) (n : ℕ) → contents (beneath (xs, n)) ≡ filter is_nonempty xs
contents-beneath [] n = refl
contents-beneath (x ∷ xs) n = contents-spread x xs n

pub contents-under : {A : Type 0} (g : A → List ℕ) (fs : List (Fiber A)) → contents (under g fs) ≡ filter is_nonempty (map g (all_elements fs))
contents-under g [] = refl
contents-under g (f ∷ fs) =
    contents-both (beneath_by g f) (under g fs)
    ∙ rw (contents-beneath (map g f.0) f.1, contents-under g fs)
    (sym (ap (filter is_nonempty) (map-append g f.0 (all_elements fs)) ∙ filter-append is_nonempty (map g f.0) (map g (all_elements fs))))
