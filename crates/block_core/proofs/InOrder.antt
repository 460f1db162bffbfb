-- Two ascending sides, merged from their fronts: the recursion, and that an intersection of them is `meet`.
use Rattle.std.specs.Prelude.{◌≡◌, ◌<◌, ◌≤◌, ℕ, Bool, true, false, List, [], ◌∷◌, Option, Some, None, eqb, ltb, nat_lt, if◌then◌else◌, refl}
use Rattle.std.proofs.Common.{arith, sym, ◌∙◌, ap}
use Rattle.std.proofs.lemmas.Bool.Decides.{nat_tests}
use Rattle.stream_tokens.specs.Nest.{Leaf}
use Rattle.block_core.specs.Merge.{Head, Above, Ascends, look, head_of, meet_one, meet}

-- ---- the recursion on both sides

-- a head of one side alone
abbrev pub alone : Bool → Head → List Head → List Head
alone true h rest = h ∷ rest
alone false h rest = rest

abbrev pub right_list : Bool → ℕ → ℕ → List Head → List Head
right_list u l r [] = []
right_list u l r (k ∷ ks) = alone u (head_of l r k.0 [] k.1) (right_list u l r ks)

abbrev pub along_list : Bool → ℕ → ℕ → Head → (List Head → List Head) → List Head → List Head
along_list u l r h go [] = alone u (head_of l r h.0 h.1 []) (go [])
along_list u l r h go (k ∷ ks) =
    if nat_lt h.0 k.0 then alone u (head_of l r h.0 h.1 []) (go (k ∷ ks))
    else if nat_lt k.0 h.0 then alone u (head_of l r k.0 [] k.1) (along_list u l r h go ks)
    else head_of l r h.0 h.1 k.1 ∷ go ks

abbrev pub fiber_list : Bool → ℕ → ℕ → List Head → List Head → List Head
fiber_list u l r [] ks = right_list u l r ks
fiber_list u l r (h ∷ hs) ks = along_list u l r h (fiber_list u l r hs) ks

-- ---- tests on numbers

pub less : (a b : ℕ) → nat_lt a b ≡ true → a < b
less a b e = grind (arith, nat_tests)

pub at-least : (a b : ℕ) → nat_lt a b ≡ false → b ≤ a
at-least a b e = grind (arith, nat_tests)

pub lt-true : (a b : ℕ) → a < b → nat_lt a b ≡ true
lt-true a b h = grind (arith, nat_tests)

pub lt-false : (a b : ℕ) → b ≤ a → nat_lt a b ≡ false
lt-false a b h = grind (arith, nat_tests)

pub differ : (a b : ℕ) → a < b → eqb a b ≡ false
differ a b h = grind (arith, nat_tests)

pub differ-above : (a b : ℕ) → b < a → eqb a b ≡ false
differ-above a b h = grind (arith, nat_tests)

pub alike : (a b : ℕ) → a ≡ b → eqb a b ≡ true
alike a b h = grind (arith, nat_tests)

pub below : (a b : ℕ) → a < b → ltb a b ≡ true
below a b h = grind (arith, nat_tests)

pub not-below : (a b : ℕ) → b ≤ a → ltb a b ≡ false
not-below a b h = grind (arith, nat_tests)

-- ---- sides that ascend

pub ascends-after : (c : ℕ) (hs : List Head) → Above c hs → Ascends hs
ascends-after c [] a = tt
ascends-after c (h ∷ hs) a = a.1

pub above-less : (b c : ℕ) (hs : List Head) → b ≤ c → Above c hs → Above b hs
above-less b c [] e a = tt
above-less b c (h ∷ hs) e a = (omega (arith, e, a.0), a.1)

pub look-above : (c : ℕ) (ks : List Head) → Above c ks → look c ks ≡ None
look-above c [] a = refl
look-above c (k ∷ ks) a = rw (differ c k.0 a.0) (look-above c ks (above-less c k.0 ks (omega (arith, a.0)) a.1))

pub look-past : (c : ℕ) (k : Head) (ks : List Head) → k.0 < c → look c (k ∷ ks) ≡ look c ks
look-past c k ks e = rw (differ-above c k.0 e) refl

pub look-first : (c : ℕ) (k : Head) (ks : List Head) → c ≡ k.0 → look c (k ∷ ks) ≡ Some k.1
look-first c k ks e = rw (alike c k.0 e) refl

-- ---- the coordinates of both

right-none : (l r : ℕ) (ks : List Head) → right_list false l r ks ≡ []
right-none l r [] = refl
right-none l r (k ∷ ks) = right-none l r ks

-- a coordinate of the right that is passed by all of the left
meet-past : (l r : ℕ) (hs : List Head) (k : Head) (ks : List Head) → Above k.0 hs → meet l r hs (k ∷ ks) ≡ meet l r hs ks
meet-past l r [] k ks a = refl
meet-past l r (h ∷ hs) k ks a =
    ap (λ (x : Option (List Leaf)). meet_one l r h x (meet l r hs (k ∷ ks))) (look-past h.0 k ks a.0)
    ∙ ap (meet_one l r h (look h.0 ks)) (meet-past l r hs k ks (above-less k.0 h.0 hs (omega (arith, a.0)) a.1))

meet-along : (l r : ℕ) (h : Head) (hs : List Head) → Above h.0 hs
    → ((ks : List Head) → Ascends ks → fiber_list false l r hs ks ≡ meet l r hs ks)
    → (ks : List Head) → Ascends ks → along_list false l r h (fiber_list false l r hs) ks ≡ meet l r (h ∷ hs) ks
meet-along l r h hs a ih [] b = ih [] tt
meet-along l r h hs a ih (k ∷ ks) b =
    by_case (meet-along l r h hs a ih ks (ascends-after k.0 ks b)) (nat_lt h.0 k.0) (nat_lt k.0 h.0) refl refl
  where
    by_case : along_list false l r h (fiber_list false l r hs) ks ≡ meet l r (h ∷ hs) ks
        → (p q : Bool) → nat_lt h.0 k.0 ≡ p → nat_lt k.0 h.0 ≡ q
        → (if p then fiber_list false l r hs (k ∷ ks)
        else if q then along_list false l r h (fiber_list false l r hs) ks
        else head_of l r h.0 h.1 k.1 ∷ fiber_list false l r hs ks) ≡ meet l r (h ∷ hs) (k ∷ ks)
    by_case e true q s t =
        ih (k ∷ ks) b
        ∙ sym (ap (λ (x : Option (List Leaf)). meet_one l r h x (meet l r hs (k ∷ ks))) (look-above h.0 (k ∷ ks) (less h.0 k.0 s, b)))
    by_case e false true s t =
        e
        ∙ sym (ap (λ (x : Option (List Leaf)). meet_one l r h x (meet l r hs (k ∷ ks))) (look-past h.0 k ks (less k.0 h.0 t))
        ∙ ap (meet_one l r h (look h.0 ks)) (meet-past l r hs k ks (above-less k.0 h.0 hs (omega (arith, less k.0 h.0 t)) a)))
    by_case e false false s t =
        let same : h.0 ≡ k.0 = omega (arith, at-least h.0 k.0 s, at-least k.0 h.0 t) in
        ap (λ (x : List Head). head_of l r h.0 h.1 k.1 ∷ x) (ih ks (ascends-after k.0 ks b) ∙ sym (meet-past l r hs k ks (above-less k.0 h.0 hs (omega (arith, same)) a)))
        ∙ sym (ap (λ (x : Option (List Leaf)). meet_one l r h x (meet l r hs (k ∷ ks))) (look-first h.0 k ks same))

pub meet-order : (l r : ℕ) (hs : List Head) → Ascends hs → (ks : List Head) → Ascends ks → fiber_list false l r hs ks ≡ meet l r hs ks
meet-order l r [] a ks b = right-none l r ks
meet-order l r (h ∷ hs) a ks b =
    meet-along l r h hs a (λ ys c. meet-order l r hs (ascends-after h.0 hs a) ys c) ks b
