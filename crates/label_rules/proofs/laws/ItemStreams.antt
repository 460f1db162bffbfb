-- Streams that are told of fibers: tokens that are the same, and numbers that are bounded or changed.
use Rattle.std.specs.Prelude.{◌≡◌, ◌<◌, ℕ, zero, suc, List, [], ◌∷◌, refl, Some, None}
use mathlib.Core.List.{map}
use Rattle.std.proofs.Common.{◌∙◌, ap, subst}
use Rattle.stream_tokens.specs.declared.Token.{Token}
use Rattle.stream_tokens.specs.Nest.{Fiber, Leaf, leaf}
use Rattle.stream_tokens.specs.Flat.{fiber_tokens, closed, flat}
use Rattle.stream_tokens.specs.Shapes.{Each, EachToken}
use Rattle.block_core.specs.Ports.{Streams}
use Rattle.block_core.specs.Change.{ItemsBelow, on_item}
use Rattle.block_core.specs.Kind.{Kind}
use Rattle.block_core.proofs.Given.{Gives}

-- what a block gives of streams that are the same
pub gives-same : (kind : Kind) (ins ins' outs outs' : Streams) → ins ≡ ins' → outs ≡ outs' → Gives kind ins outs
    → Gives kind ins' outs'
gives-same kind ins ins' outs outs' i o g = subst (λ (s : Streams). Gives kind s outs') i (subst (Gives kind ins) o g)

written_ext : {A : Type 0} (Q : A → Type 0) (f g : A → Token) → ((x : A) → Q x → f x ≡ g x) → (xs : List A) → Each Q xs
    → (rest : List Token)
    → fiber_tokens f xs rest ≡ fiber_tokens g xs rest
written_ext Q f g h [] e rest = refl
written_ext Q f g h (x ∷ xs) e rest = rw (h x e.0, written_ext Q f g h xs e.1 rest) refl

-- tokens that are the same at each element
pub flat-ext : {A : Type 0} (Q : A → Type 0) (f g : A → Token) → ((x : A) → Q x → f x ≡ g x) → (fs : List (Fiber A))
    → EachToken Q fs
    → flat f fs ≡ flat g fs
flat-ext Q f g h [] e = refl
flat-ext Q f g h (x ∷ fs) e =
    written_ext Q f g h x.0 e.0 (closed x.1 (flat f fs))
    ∙ ap (λ (s : List Token). fiber_tokens g x.0 (closed x.1 s)) (flat-ext Q f g h fs e.1)

-- ---- numbers that are bounded

item_below : (m : ℕ) (o : Leaf) (rest : List Token) → ((n : ℕ) → o ≡ Some n → n < m) → ItemsBelow m rest → ItemsBelow m (leaf o ∷ rest)
item_below m None rest h r = r
item_below m (Some n) rest h r = (h n refl, r)

closed_below : (m n : ℕ) (rest : List Token) → ItemsBelow m rest → ItemsBelow m (closed n rest)
closed_below m zero rest h = h
closed_below m (suc k) rest h = h

written_below : {A : Type 0} (m : ℕ) (x : A → Leaf) (Q : A → Type 0) → ((a : A) → Q a → (n : ℕ) → x a ≡ Some n → n < m) → (xs : List A) → Each Q xs
    → (rest : List Token) → ItemsBelow m rest → ItemsBelow m (fiber_tokens (λ a. leaf (x a)) xs rest)
written_below m x Q h [] e rest r = r
written_below m x Q h (a ∷ xs) e rest r =
    item_below m (x a) (fiber_tokens (λ a. leaf (x a)) xs rest) (h a e.0) (written_below m x Q h xs e.1 rest r)

pub tellings-below : {A : Type 0} (m : ℕ) (x : A → Leaf) (Q : A → Type 0) → ((a : A) → Q a → (n : ℕ) → x a ≡ Some n → n < m) → (fs : List (Fiber A))
    → EachToken Q fs → ItemsBelow m (flat (λ a. leaf (x a)) fs)
tellings-below m x Q h [] e = tt
tellings-below m x Q h (f ∷ fs) e =
    written_below m x Q h f.0 e.0 (closed f.1 (flat (λ a. leaf (x a)) fs))
    (closed_below m f.1 (flat (λ a. leaf (x a)) fs) (tellings-below m x Q h fs e.1))

-- ---- numbers that are changed

abbrev pub on_leaf : (ℕ → ℕ) → Leaf → Leaf
on_leaf h None = None
on_leaf h (Some n) = Some (h n)

on_leaf_item : (h : ℕ → ℕ) (o : Leaf) → on_item h (leaf o) ≡ leaf (on_leaf h o)
on_leaf_item h None = refl
on_leaf_item h (Some n) = refl

closed_items : (h : ℕ → ℕ) (n : ℕ) (rest : List Token) → map (on_item h) (closed n rest) ≡ closed n (map (on_item h) rest)
closed_items h zero rest = refl
closed_items h (suc k) rest = refl

written_items : {A : Type 0} (h : ℕ → ℕ) (x : A → Leaf) (xs : List A) (rest : List Token)
    → map (on_item h) (fiber_tokens (λ a. leaf (x a)) xs rest) ≡ fiber_tokens (λ a. leaf (on_leaf h (x a))) xs (map (on_item h) rest)
written_items h x [] rest = refl
written_items h x (a ∷ xs) rest = rw (on_leaf_item h (x a), written_items h x xs rest) refl

pub tellings-changed : {A : Type 0} (h : ℕ → ℕ) (x : A → Leaf) (fs : List (Fiber A))
    → map (on_item h) (flat (λ a. leaf (x a)) fs) ≡ flat (λ a. leaf (on_leaf h (x a))) fs
tellings-changed h x [] = refl
tellings-changed h x (f ∷ fs) =
    written_items h x f.0 (closed f.1 (flat (λ a. leaf (x a)) fs))
    ∙ ap (fiber_tokens (λ a. leaf (on_leaf h (x a))) f.0)
    (closed_items h f.1 (flat (λ a. leaf (x a)) fs) ∙ ap (closed f.1) (tellings-changed h x fs))
