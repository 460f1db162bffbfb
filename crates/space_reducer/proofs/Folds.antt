-- What is added one after another, from the left, is what a sum from the right gathers.
use Rattle.std.proofs.Common.{◌≡◌, ℕ, List, [], ◌∷◌, ◌++◌, None, refl, sym, ◌∙◌, ap}
use Rattle.stream_tokens.specs.Nest.{Leaf}
use Rattle.block_core.specs.Arithmetic.{combined_leaf, Plus}
use Rattle.block_core.specs.Gather.{add_at, gather, all_of}
use Rattle.space_reducer.proofs.Changed.{change_at, add-changes, change-swap}
use Rattle.block_core.proofs.Sums.{plus-nothing, plus-comm, plus-assoc}

abbrev pub from_left : {A S : Type 0} → (A → S → S) → S → List A → S
from_left f s [] = s
from_left f s (x ∷ xs) = from_left f (f x s) xs

abbrev pub from_right : {A S : Type 0} → (A → S → S) → S → List A → S
from_right f s [] = s
from_right f s (x ∷ xs) = f x (from_right f s xs)

module _ {A S : Type 0} where
  pub from_left-append : (f : A → S → S) (s : S) (xs ys : List A) → from_left f s (xs ++ ys) ≡ from_left f (from_left f s xs) ys
  from_left-append f s [] ys = refl
  from_left-append f s (x ∷ xs) ys = from_left-append f (f x s) xs ys

  -- an element that passes all others may come last
  past-all : (f g : A → S → S) → ((x y : A) (s : S) → g x (f y s) ≡ f y (g x s)) → (x : A) (s : S) (ys : List A)
      → from_left f (g x s) ys ≡ g x (from_left f s ys)
  past-all f g c x s [] = refl
  past-all f g c x s (y ∷ ys) = ap (λ t. from_left f t ys) (sym (c x y s)) ∙ past-all f g c x (f y s) ys

  -- one way from the left and another from the right meet where they pass each other and begin alike
  pub left-right : (f g : A → S → S) (s : S) → ((x y : A) (t : S) → g x (f y t) ≡ f y (g x t)) → ((x : A) → f x s ≡ g x s) → (xs : List A)
      → from_left f s xs ≡ from_right g s xs
  left-right f g s c b [] = refl
  left-right f g s c b (x ∷ xs) =
      ap (λ t. from_left f t xs) (b x) ∙ past-all f g c x s xs ∙ ap (g x) (left-right f g s c b xs)

pub gather-right : {V : Type 0} (add : V → V → V) (ps : List (ℕ × V)) → gather add ps ≡ from_right (λ p xs. add_at add p.0 p.1 xs) [] ps
gather-right add [] = refl
gather-right add (p ∷ ps) = ap (add_at add p.0 p.1) (gather-right add ps)

-- a value with its coordinate added to those kept
abbrev pub add_pair : ℕ × Leaf → List (ℕ × Leaf) → List (ℕ × Leaf)
add_pair p xs = add_at (combined_leaf Plus) p.0 p.1 xs

plus-past : (a b r : Leaf) → combined_leaf Plus a (combined_leaf Plus b r) ≡ combined_leaf Plus b (combined_leaf Plus a r)
plus-past a b r = sym (plus-assoc a b r) ∙ ap (λ x. combined_leaf Plus x r) (plus-comm a b) ∙ plus-assoc b a r

pair-changes : (p : ℕ × Leaf) (xs : List (ℕ × Leaf)) → add_pair p xs ≡ change_at None (combined_leaf Plus p.1) p.0 xs
pair-changes p xs = add-changes None (combined_leaf Plus) plus-nothing p.0 p.1 xs

pairs-swap : (p q : ℕ × Leaf) (xs : List (ℕ × Leaf)) → add_pair p (add_pair q xs) ≡ add_pair q (add_pair p xs)
pairs-swap p q xs =
    ap (add_pair p) (pair-changes q xs)
    ∙ pair-changes p (change_at None (combined_leaf Plus q.1) q.0 xs)
    ∙ change-swap None (combined_leaf Plus p.1) (combined_leaf Plus q.1) p.0 q.0 xs (plus-past p.1 q.1)
    ∙ sym (pair-changes q (change_at None (combined_leaf Plus p.1) p.0 xs))
    ∙ ap (add_pair q) (sym (pair-changes p xs))

pub added-gathers : (ps : List (ℕ × Leaf)) → from_left add_pair [] ps ≡ gather (combined_leaf Plus) ps
added-gathers ps =
    left-right add_pair add_pair [] pairs-swap (λ p. refl) ps ∙ sym (gather-right (combined_leaf Plus) ps)

-- piece by piece
pub by-pieces : {A S : Type 0} (f : A → S → S) (s : S) (xss : List (List A)) → from_left (λ xs t. from_left f t xs) s xss ≡ from_left f s (all_of xss)
by-pieces f s [] = refl
by-pieces f s (xs ∷ xss) = by-pieces f (from_left f s xs) xss ∙ sym (from_left-append f s xs (all_of xss))
