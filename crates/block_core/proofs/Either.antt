-- Two ascending sides, merged from their fronts: a union of them is `unite`.
use Rattle.std.specs.Prelude.{◌≡◌, ◌<◌, ℕ, Bool, true, false, List, [], ◌∷◌, ◌++◌, Option, Some, None, eqb, ltb, cond, nat_lt, if◌then◌else◌, refl}
use mathlib.Core.List.{map}
use Rattle.std.proofs.Common.{arith, sym, ◌∙◌, ap}
use Rattle.stream_tokens.specs.Nest.{Leaf}
use Rattle.stream_tokens.specs.Shapes.{Each}
use Rattle.stream_tokens.proofs.Algebra.{Each-imp, map-ext}
use Rattle.block_core.specs.Gather.{add_at, gather}
use Rattle.block_core.specs.Merge.{Head, Above, Ascends, look, head_of, or_none, either, unite}
use Rattle.block_core.proofs.InOrder.{right_list, along_list, fiber_list, less, at-least, lt-true, lt-false, differ-above, alike, below, not-below, ascends-after, above-less, look-above, look-past, look-first}

-- the coordinates of both sides, from their fronts
abbrev along_coordinates : ℕ → (List Head → List ℕ) → List Head → List ℕ
along_coordinates c go [] = c ∷ go []
along_coordinates c go (k ∷ ks) =
    if nat_lt c k.0 then c ∷ go (k ∷ ks) else if nat_lt k.0 c then k.0 ∷ along_coordinates c go ks else c ∷ go ks

abbrev coordinates : List Head → List Head → List ℕ
coordinates [] ks = map (λ k. k.0) ks
coordinates (h ∷ hs) ks = along_coordinates h.0 (coordinates hs) ks

-- ---- what holds of each coordinate

above-each : (c : ℕ) (hs : List Head) → Above c hs → Each (λ h. c < h.0) hs
above-each c [] a = tt
above-each c (h ∷ hs) a = (a.0, above-each c hs (above-less c h.0 hs (omega (arith, a.0)) a.1))

each-first : (Q : ℕ → Type 0) (ks : List Head) → Each (λ k. Q k.0) ks → Each Q (map (λ k. k.0) ks)
each-first Q [] e = tt
each-first Q (k ∷ ks) e = (e.0, each-first Q ks e.1)

each-along : (Q : ℕ → Type 0) (c : ℕ) (go : List Head → List ℕ) → Q c → ((ks : List Head) → Each (λ k. Q k.0) ks → Each Q (go ks))
    → (ks : List Head) → Each (λ k. Q k.0) ks → Each Q (along_coordinates c go ks)
each-along Q c go q f [] e = (q, f [] tt)
each-along Q c go q f (k ∷ ks) e = by_case (each-along Q c go q f ks e.1) (nat_lt c k.0) (nat_lt k.0 c)
  where
    by_case : Each Q (along_coordinates c go ks) → (p q : Bool)
        → Each Q (if p then c ∷ go (k ∷ ks) else if q then k.0 ∷ along_coordinates c go ks else c ∷ go ks)
    by_case h true y = (q, f (k ∷ ks) e)
    by_case h false true = (e.0, h)
    by_case h false false = (q, f ks e.1)

each-coordinate : (Q : ℕ → Type 0) (hs ks : List Head) → Each (λ h. Q h.0) hs → Each (λ k. Q k.0) ks → Each Q (coordinates hs ks)
each-coordinate Q [] ks d e = each-first Q ks e
each-coordinate Q (h ∷ hs) ks d e = each-along Q h.0 (coordinates hs) d.0 (λ ys c. each-coordinate Q hs ys d.1 c) ks e

-- ---- the coordinates of either

abbrev insert : ℕ → List ℕ → List ℕ
insert c [] = c ∷ []
insert c (x ∷ xs) = cond (ltb c x) (c ∷ x ∷ xs) (cond (eqb c x) (c ∷ xs) (x ∷ insert c xs))

inserted : (c : ℕ) (v : List Leaf) (ps : List Head) → map (λ h. h.0) (add_at (λ a b. a) c v ps) ≡ insert c (map (λ h. h.0) ps)
inserted c v [] = refl
inserted c v (p ∷ ps) = by_case (inserted c v ps) (ltb c p.0) (eqb c p.0)
  where
    by_case : map (λ h. h.0) (add_at (λ a b. a) c v ps) ≡ insert c (map (λ h. h.0) ps) → (x y : Bool)
        → map (λ h. h.0) (cond x ((c, v) ∷ p ∷ ps) (cond y ((c, v) ∷ ps) (p ∷ add_at (λ a b. a) c v ps)))
        ≡ cond x (c ∷ p.0 ∷ map (λ h. h.0) ps) (cond y (c ∷ map (λ h. h.0) ps) (p.0 ∷ insert c (map (λ h. h.0) ps)))
    by_case e true y = refl
    by_case e false true = refl
    by_case e false false = ap (λ (xs : List ℕ). p.0 ∷ xs) e

insert-first : (c : ℕ) (xs : List ℕ) → Each (λ x. c < x) xs → insert c xs ≡ c ∷ xs
insert-first c [] e = refl
insert-first c (x ∷ xs) e = rw (below c x e.0) refl

-- a coordinate of the right that is passed by all of the left
coordinates-past : (hs : List Head) (k : Head) (ks : List Head) → Above k.0 hs → coordinates hs (k ∷ ks) ≡ k.0 ∷ coordinates hs ks
coordinates-past [] k ks a = refl
coordinates-past (h ∷ hs) k ks a = rw (lt-false h.0 k.0 (omega (arith, a.0)), lt-true k.0 h.0 a.0) refl

insert-along : (h : Head) (hs : List Head) → Above h.0 hs → (ks : List Head) → Ascends ks
    → insert h.0 (coordinates hs ks) ≡ along_coordinates h.0 (coordinates hs) ks
insert-along h hs a [] b = insert-first h.0 (coordinates hs []) (each-coordinate (λ x. h.0 < x) hs [] (above-each h.0 hs a) tt)
insert-along h hs a (k ∷ ks) b =
    by_case (insert-along h hs a ks (ascends-after k.0 ks b)) (nat_lt h.0 k.0) (nat_lt k.0 h.0) refl refl
  where
    by_case : insert h.0 (coordinates hs ks) ≡ along_coordinates h.0 (coordinates hs) ks
        → (p q : Bool) → nat_lt h.0 k.0 ≡ p → nat_lt k.0 h.0 ≡ q
        → insert h.0 (coordinates hs (k ∷ ks))
        ≡ (if p then h.0 ∷ coordinates hs (k ∷ ks)
        else if q then k.0 ∷ along_coordinates h.0 (coordinates hs) ks
        else h.0 ∷ coordinates hs ks)
    by_case e true q s t =
        insert-first h.0 (coordinates hs (k ∷ ks))
        (each-coordinate (λ x. h.0 < x) hs (k ∷ ks) (above-each h.0 hs a) (above-each h.0 (k ∷ ks) (less h.0 k.0 s, b)))
    by_case e false true s t =
        let l : k.0 < h.0 = less k.0 h.0 t in
        ap (insert h.0) (coordinates-past hs k ks (above-less k.0 h.0 hs (omega (arith, l)) a))
        ∙ rw (not-below h.0 k.0 (omega (arith, l)), differ-above h.0 k.0 l) (ap (λ (xs : List ℕ). k.0 ∷ xs) e)
    by_case e false false s t =
        let same : h.0 ≡ k.0 = omega (arith, at-least h.0 k.0 s, at-least k.0 h.0 t) in
        ap (insert h.0) (coordinates-past hs k ks (above-less k.0 h.0 hs (omega (arith, same)) a))
        ∙ rw (not-below h.0 k.0 (omega (arith, same)), alike h.0 k.0 same) refl

gathered-self : (ks : List Head) → Ascends ks → map (λ h. h.0) (gather (λ a b. a) ks) ≡ map (λ h. h.0) ks
gathered-self [] b = refl
gathered-self (k ∷ ks) b =
    inserted k.0 k.1 (gather (λ a b. a) ks) ∙ ap (insert k.0) (gathered-self ks (ascends-after k.0 ks b))
    ∙ insert-first k.0 (map (λ h. h.0) ks) (each-first (λ x. k.0 < x) ks (above-each k.0 ks b))

either-is : (hs : List Head) → Ascends hs → (ks : List Head) → Ascends ks → either hs ks ≡ coordinates hs ks
either-is [] a ks b = gathered-self ks b
either-is (h ∷ hs) a ks b =
    inserted h.0 h.1 (gather (λ a b. a) (hs ++ ks)) ∙ ap (insert h.0) (either-is hs (ascends-after h.0 hs a) ks b)
    ∙ insert-along h hs a ks b

-- ---- their payloads

abbrev found : ℕ → ℕ → List Head → List Head → ℕ → Head
found l r hs ks c = head_of l r c (or_none (look c hs)) (or_none (look c ks))

-- the head at a coordinate, by what is found on each side
found-is : (l r c : ℕ) (hs ks : List Head) (x y : Option (List Leaf)) → look c hs ≡ x → look c ks ≡ y
    → found l r hs ks c ≡ head_of l r c (or_none x) (or_none y)
found-is l r c hs ks x y d e = rw (d, e) refl

found-same : (l r c : ℕ) (hs ks hs' ks' : List Head) → look c hs ≡ look c hs' → look c ks ≡ look c ks'
    → found l r hs ks c ≡ found l r hs' ks' c
found-same l r c hs ks hs' ks' d e = rw (d, e) refl

right-is : (l r : ℕ) (ks : List Head) → Ascends ks → right_list true l r ks ≡ map (found l r [] ks) (map (λ k. k.0) ks)
right-is l r [] b = refl
right-is l r (k ∷ ks) b =
    let e : found l r [] (k ∷ ks) k.0 ≡ head_of l r k.0 [] k.1 = found-is l r k.0 [] (k ∷ ks) None (Some k.1) refl (look-first k.0 k ks refl) in
    let more : right_list true l r ks ≡ map (found l r [] (k ∷ ks)) (map (λ k. k.0) ks) =
    right-is l r ks (ascends-after k.0 ks b)
    ∙ map-ext (λ c. (found l r [] ks) c ≡ (found l r [] (k ∷ ks)) c) (found l r [] ks) (found l r [] (k ∷ ks)) (λ c e. e) (map (λ k. k.0) ks)
    (Each-imp (λ x. k.0 < x) (λ x. found l r [] ks x ≡ found l r [] (k ∷ ks) x)
    (λ x s. found-same l r x [] ks [] (k ∷ ks) refl (sym (look-past x k ks s)))
    (map (λ k. k.0) ks) (each-first (λ x. k.0 < x) ks (above-each k.0 ks b))) in
    rw (e, more) refl

along-is : (l r : ℕ) (h : Head) (hs : List Head) → Above h.0 hs
    → ((ks : List Head) → Ascends ks → fiber_list true l r hs ks ≡ map (found l r hs ks) (coordinates hs ks))
    → (ks : List Head) → Ascends ks
    → along_list true l r h (fiber_list true l r hs) ks ≡ map (found l r (h ∷ hs) ks) (along_coordinates h.0 (coordinates hs) ks)
along-is l r h hs a ih [] b =
    let e : found l r (h ∷ hs) [] h.0 ≡ head_of l r h.0 h.1 [] = found-is l r h.0 (h ∷ hs) [] (Some h.1) None (look-first h.0 h hs refl) refl in
    let more : fiber_list true l r hs [] ≡ map (found l r (h ∷ hs) []) (coordinates hs []) =
    ih [] tt
    ∙ map-ext (λ c. (found l r hs []) c ≡ (found l r (h ∷ hs) []) c) (found l r hs []) (found l r (h ∷ hs) []) (λ c e. e) (coordinates hs [])
    (Each-imp (λ x. h.0 < x) (λ x. found l r hs [] x ≡ found l r (h ∷ hs) [] x)
    (λ x s. found-same l r x hs [] (h ∷ hs) [] (sym (look-past x h hs s)) refl)
    (coordinates hs []) (each-coordinate (λ x. h.0 < x) hs [] (above-each h.0 hs a) tt)) in
    rw (e, more) refl
along-is l r h hs a ih (k ∷ ks) b =
    by_case (along-is l r h hs a ih ks (ascends-after k.0 ks b)) (nat_lt h.0 k.0) (nat_lt k.0 h.0) refl refl
  where
    by_case : along_list true l r h (fiber_list true l r hs) ks ≡ map (found l r (h ∷ hs) ks) (along_coordinates h.0 (coordinates hs) ks)
        → (p q : Bool) → nat_lt h.0 k.0 ≡ p → nat_lt k.0 h.0 ≡ q
        → (if p then head_of l r h.0 h.1 [] ∷ fiber_list true l r hs (k ∷ ks)
        else if q then head_of l r k.0 [] k.1 ∷ along_list true l r h (fiber_list true l r hs) ks
        else head_of l r h.0 h.1 k.1 ∷ fiber_list true l r hs ks)
        ≡ map (found l r (h ∷ hs) (k ∷ ks)) (if p then h.0 ∷ coordinates hs (k ∷ ks)
        else if q then k.0 ∷ along_coordinates h.0 (coordinates hs) ks
        else h.0 ∷ coordinates hs ks)
    by_case e true q s t =
        let c : h.0 < k.0 = less h.0 k.0 s in
        let first : found l r (h ∷ hs) (k ∷ ks) h.0 ≡ head_of l r h.0 h.1 [] =
        found-is l r h.0 (h ∷ hs) (k ∷ ks) (Some h.1) None (look-first h.0 h hs refl) (look-above h.0 (k ∷ ks) (c, b)) in
        let more : fiber_list true l r hs (k ∷ ks) ≡ map (found l r (h ∷ hs) (k ∷ ks)) (coordinates hs (k ∷ ks)) =
        ih (k ∷ ks) b
        ∙ map-ext (λ c. (found l r hs (k ∷ ks)) c ≡ (found l r (h ∷ hs) (k ∷ ks)) c) (found l r hs (k ∷ ks)) (found l r (h ∷ hs) (k ∷ ks)) (λ c e. e) (coordinates hs (k ∷ ks))
        (Each-imp (λ x. h.0 < x) (λ x. found l r hs (k ∷ ks) x ≡ found l r (h ∷ hs) (k ∷ ks) x)
        (λ x y. found-same l r x hs (k ∷ ks) (h ∷ hs) (k ∷ ks) (sym (look-past x h hs y)) refl)
        (coordinates hs (k ∷ ks))
        (each-coordinate (λ x. h.0 < x) hs (k ∷ ks) (above-each h.0 hs a) (above-each h.0 (k ∷ ks) (c, b)))) in
        rw (first, more) refl
    by_case e false true s t =
        let c : k.0 < h.0 = less k.0 h.0 t in
        let first : found l r (h ∷ hs) (k ∷ ks) k.0 ≡ head_of l r k.0 [] k.1 =
        found-is l r k.0 (h ∷ hs) (k ∷ ks) None (Some k.1) (look-above k.0 (h ∷ hs) (c, a)) (look-first k.0 k ks refl) in
        let more : along_list true l r h (fiber_list true l r hs) ks ≡ map (found l r (h ∷ hs) (k ∷ ks)) (along_coordinates h.0 (coordinates hs) ks) =
        e
        ∙ map-ext (λ c. (found l r (h ∷ hs) ks) c ≡ (found l r (h ∷ hs) (k ∷ ks)) c) (found l r (h ∷ hs) ks) (found l r (h ∷ hs) (k ∷ ks)) (λ c e. e) (along_coordinates h.0 (coordinates hs) ks)
        (Each-imp (λ x. k.0 < x) (λ x. found l r (h ∷ hs) ks x ≡ found l r (h ∷ hs) (k ∷ ks) x)
        (λ x y. found-same l r x (h ∷ hs) ks (h ∷ hs) (k ∷ ks) refl (sym (look-past x k ks y)))
        (along_coordinates h.0 (coordinates hs) ks)
        (each-coordinate (λ x. k.0 < x) (h ∷ hs) ks (above-each k.0 (h ∷ hs) (c, a)) (above-each k.0 ks b))) in
        rw (first, more) refl
    by_case e false false s t =
        let same : h.0 ≡ k.0 = omega (arith, at-least h.0 k.0 s, at-least k.0 h.0 t) in
        let first : found l r (h ∷ hs) (k ∷ ks) h.0 ≡ head_of l r h.0 h.1 k.1 =
        found-is l r h.0 (h ∷ hs) (k ∷ ks) (Some h.1) (Some k.1) (look-first h.0 h hs refl) (look-first h.0 k ks same) in
        let more : fiber_list true l r hs ks ≡ map (found l r (h ∷ hs) (k ∷ ks)) (coordinates hs ks) =
        ih ks (ascends-after k.0 ks b)
        ∙ map-ext (λ c. (found l r hs ks) c ≡ (found l r (h ∷ hs) (k ∷ ks)) c) (found l r hs ks) (found l r (h ∷ hs) (k ∷ ks)) (λ c e. e) (coordinates hs ks)
        (Each-imp (λ x. h.0 < x) (λ x. found l r hs ks x ≡ found l r (h ∷ hs) (k ∷ ks) x)
        (λ x y. found-same l r x hs ks (h ∷ hs) (k ∷ ks) (sym (look-past x h hs y)) (sym (look-past x k ks (omega (arith, y, same)))))
        (coordinates hs ks)
        (each-coordinate (λ x. h.0 < x) hs ks (above-each h.0 hs a) (above-each h.0 ks (above-less h.0 k.0 ks (omega (arith, same)) b)))) in
        rw (first, more) refl

list-is : (l r : ℕ) (hs : List Head) → Ascends hs → (ks : List Head) → Ascends ks
    → fiber_list true l r hs ks ≡ map (found l r hs ks) (coordinates hs ks)
list-is l r [] a ks b = right-is l r ks b
list-is l r (h ∷ hs) a ks b = along-is l r h hs a (λ ys c. list-is l r hs (ascends-after h.0 hs a) ys c) ks b

pub unite-order : (l r : ℕ) (hs : List Head) → Ascends hs → (ks : List Head) → Ascends ks → fiber_list true l r hs ks ≡ unite l r hs ks
unite-order l r hs a ks b = list-is l r hs a ks b ∙ ap (map (found l r hs ks)) (sym (either-is hs a ks b))
