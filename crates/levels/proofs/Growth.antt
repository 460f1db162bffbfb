-- What a pass over the rows has made so far.
use Rattle.std.proofs.Common.{◌≡◌, ℕ, zero, suc, ◌+◌, ◌-◌, ◌*◌, ◌<◌, ◌≤◌, Bool, true, false, cond, List, [], ◌∷◌, ◌++◌, Some, None, length, take, drop, get_or, replicate, refl, ap, sym, ◌∙◌, subst, arith}
use Rattle.std.specs.Prelude.{slice_get}
use Rattle.std.specs.List.{range_with_len}
use mathlib.Core.List.{map}
use Rattle.std.proofs.lemmas.List.{length_push, map-append, take_all, take_more, take-append-drop, get_or_append_left, drop_more, drop_all, map_more}
use Rattle.std.proofs.lemmas.List.FromFn.{length-map-range_with_len}
use Rattle.std.proofs.lemmas.Nat.{mul-add-lt}
use Rattle.std.proofs.Math.Nat.{mul_comm}
use Rattle.sam_model.specs.Lists.{below}
use Rattle.sam_base.specs.Each.{Each}
use Rattle.sam_model.proofs.Lists.{Each-append, Each-weaker, map-ext-each}
use Rattle.levels.specs.Sorted.{Sorted}
use Rattle.levels.specs.Pairs.{same_pair, ends_with, with_pair, with_pairs, before}
use Rattle.levels.proofs.Views.{before-split}

-- ---- the last pair

pub ends_with-some : (d : List (ℕ × ℕ)) (x y : ℕ × ℕ) → slice_get d (length d - 1) ≡ Some y → ends_with d x ≡ same_pair y x
ends_with-some [] x y h = cc
ends_with-some (z ∷ []) x y h = let e : z ≡ y = first z y h in ap (λ u. same_pair u x) e
  where
    first : (z y : ℕ × ℕ) → slice_get (z ∷ []) (length (z ∷ []) - 1) ≡ Some y → z ≡ y
    first z y h = let g : Some z ≡ Some y = h in cc
ends_with-some (z ∷ w ∷ d) x y h =
    let n : length (z ∷ w ∷ d) - 1 ≡ suc (length (w ∷ d) - 1) = omega arith in
    let g : slice_get (w ∷ d) (length (w ∷ d) - 1) ≡ Some y = sym (ap (slice_get (z ∷ w ∷ d)) n) ∙ h in
    ends_with-some (w ∷ d) x y g

pub ends_with-none : (d : List (ℕ × ℕ)) (x : ℕ × ℕ) → slice_get d (length d - 1) ≡ None → ends_with d x ≡ false
ends_with-none [] x h = refl
ends_with-none (z ∷ []) x h = let g : Some z ≡ None = h in cc
ends_with-none (z ∷ w ∷ d) x h =
    let n : length (z ∷ w ∷ d) - 1 ≡ suc (length (w ∷ d) - 1) = omega arith in
    let g : slice_get (w ∷ d) (length (w ∷ d) - 1) ≡ None = sym (ap (slice_get (z ∷ w ∷ d)) n) ∙ h in
    ends_with-none (w ∷ d) x g

pub with_pair-last : (d : List (ℕ × ℕ)) (x : ℕ × ℕ) → ends_with d x ≡ true → with_pair d x ≡ d
with_pair-last [] x h = cc
with_pair-last (y ∷ []) x h = rw h refl
with_pair-last (y ∷ z ∷ d) x h = ap (λ t. y ∷ t) (with_pair-last (z ∷ d) x h)

pub with_pair-new : (d : List (ℕ × ℕ)) (x : ℕ × ℕ) → ends_with d x ≡ false → with_pair d x ≡ d ++ x ∷ []
with_pair-new [] x h = refl
with_pair-new (y ∷ []) x h = rw h refl
with_pair-new (y ∷ z ∷ d) x h = ap (λ t. y ∷ t) (with_pair-new (z ∷ d) x h)

pub ends_with-there : (d : List (ℕ × ℕ)) (x : ℕ × ℕ) → ends_with d x ≡ true → 0 < length d
ends_with-there [] x h = cc
ends_with-there (y ∷ d) x h = omega arith

pub length-last : (d : List (ℕ × ℕ)) (x : ℕ × ℕ) → ends_with d x ≡ true → length (with_pair d x) ≡ length d
length-last d x h = ap length (with_pair-last d x h)

pub length-new : (d : List (ℕ × ℕ)) (x : ℕ × ℕ) → ends_with d x ≡ false → length (with_pair d x) ≡ length d + 1
length-new d x h = ap length (with_pair-new d x h) ∙ length_push d x

-- ---- pairs so far

pub with_pair-at : (d : List (ℕ × ℕ)) (x e : ℕ × ℕ) (r : ℕ) → r < length d → get_or (with_pair d x) r e ≡ get_or d r e
with_pair-at d x e r h = by_case (ends_with d x) refl
  where
    by_case : (b : Bool) → ends_with d x ≡ b → get_or (with_pair d x) r e ≡ get_or d r e
    by_case true s = ap (λ t. get_or t r e) (with_pair-last d x s)
    by_case false s = ap (λ t. get_or t r e) (with_pair-new d x s) ∙ get_or_append_left d (x ∷ []) e r h

pub with_pair-end : (d : List (ℕ × ℕ)) (x e : ℕ × ℕ) (r : ℕ) → r + 1 ≡ length (with_pair d x) → get_or (with_pair d x) r e ≡ x
with_pair-end [] x e zero h = refl
with_pair-end [] x e (suc r) h = absurd (omega arith)
with_pair-end (y ∷ []) x e r h = by_case (same_pair y x) refl r h
  where
    by_case : (b : Bool) → same_pair y x ≡ b → (r : ℕ) → r + 1 ≡ length (cond b (y ∷ []) (y ∷ x ∷ [])) → get_or (cond b (y ∷ []) (y ∷ x ∷ [])) r e ≡ x
    by_case true s zero h = Rattle.levels.proofs.PairLemmas.same_pair-true y x s
    by_case true s (suc r) h = absurd (omega arith)
    by_case false s zero h = absurd (omega arith)
    by_case false s (suc zero) h = refl
    by_case false s (suc (suc r)) h = absurd (omega arith)
with_pair-end (y ∷ z ∷ d) x e zero h = absurd (some (z ∷ d) x (omega arith))
  where
    some : (d : List (ℕ × ℕ)) (x : ℕ × ℕ) → 1 ≡ suc (length (with_pair d x)) → ⊥
    some [] x h = omega arith
    some (y ∷ []) x h = by_case (same_pair y x) h
      where
        by_case : (b : Bool) → 1 ≡ suc (length (cond b (y ∷ []) (y ∷ x ∷ []))) → ⊥
        by_case true h = omega arith
        by_case false h = omega arith
    some (y ∷ w ∷ d) x h = omega arith
with_pair-end (y ∷ z ∷ d) x e (suc r) h = with_pair-end (z ∷ d) x e r (omega arith)

pub length-with_pair : (d : List (ℕ × ℕ)) (x : ℕ × ℕ) → length d ≤ length (with_pair d x)
length-with_pair d x = by_case (ends_with d x) refl
  where
    by_case : (b : Bool) → ends_with d x ≡ b → length d ≤ length (with_pair d x)
    by_case true s = let e = length-last d x s in omega arith
    by_case false s = let e = length-new d x s in omega arith

pub length-with_pairs : (xs d : List (ℕ × ℕ)) → length d ≤ length (with_pairs d xs)
length-with_pairs [] d = omega arith
length-with_pairs (x ∷ xs) d = let h = length-with_pair d x in let k = length-with_pairs xs (with_pair d x) in omega arith

pub with_pairs-append : (xs ys d : List (ℕ × ℕ)) → with_pairs d (xs ++ ys) ≡ with_pairs (with_pairs d xs) ys
with_pairs-append [] ys d = refl
with_pairs-append (x ∷ xs) ys d = with_pairs-append xs ys (with_pair d x)

pub with_pairs-more : (ps : List (ℕ × ℕ)) (n : ℕ) → n < length ps → with_pairs [] (take (n + 1) ps) ≡ with_pair (with_pairs [] (take n ps)) (get_or ps n (0, 0))
with_pairs-more ps n h = ap (with_pairs []) (take_more ps n (0, 0) h) ∙ with_pairs-append (take n ps) (get_or ps n (0, 0) ∷ []) []

-- so many pairs already, so at least so many in the end
pub with_pairs-front : (ps : List (ℕ × ℕ)) (n : ℕ) → length (with_pairs [] (take n ps)) ≤ length (with_pairs [] ps)
with_pairs-front ps n =
    let e : with_pairs [] ps ≡ with_pairs (with_pairs [] (take n ps)) (drop n ps) = ap (with_pairs []) (sym (take-append-drop n ps)) ∙ with_pairs-append (take n ps) (drop n ps) [] in
    let h = length-with_pairs (drop n ps) (with_pairs [] (take n ps)) in
    rw e h

-- the places of the pairs of the first rows
pub places-more : (d : List (ℕ × ℕ)) (x : ℕ × ℕ) (ranks : List ℕ) (r : ℕ) → Each (λ r. r < length d) ranks → r + 1 ≡ length (with_pair d x) → Each (λ r. r < length (with_pair d x)) (ranks ++ r ∷ [])
places-more d x ranks r h e =
    Each-append (λ r. r < length (with_pair d x)) ranks (r ∷ [])
    (Each-weaker (λ r. r < length d) (λ r. r < length (with_pair d x)) (λ r l. let m = length-with_pair d x in omega arith) ranks h) (omega arith, tt)

pub placed-more : (d ps : List (ℕ × ℕ)) (n : ℕ) (ranks : List ℕ) (r : ℕ) → n < length ps → Each (λ r. r < length d) ranks → r + 1 ≡ length (with_pair d (get_or ps n (0, 0)))
    → map (λ r. get_or d r (0, 0)) ranks ≡ take n ps → map (λ r. get_or (with_pair d (get_or ps n (0, 0))) r (0, 0)) (ranks ++ r ∷ []) ≡ take (n + 1) ps
placed-more d ps n ranks r inside h e so_far =
    map-append (λ r. get_or (with_pair d (get_or ps n (0, 0))) r (0, 0)) ranks (r ∷ [])
    ∙ join (map-ext-each (λ r. r < length d) (λ r. get_or (with_pair d (get_or ps n (0, 0))) r (0, 0)) (λ r. get_or d r (0, 0)) (λ r l. with_pair-at d (get_or ps n (0, 0)) (0, 0) r l) ranks h ∙ so_far)
    (with_pair-end d (get_or ps n (0, 0)) (0, 0) r e)
    ∙ sym (take_more ps n (0, 0) inside)
  where
    join : {a b : List (ℕ × ℕ)} {x y : ℕ × ℕ} → a ≡ b → x ≡ y → a ++ x ∷ [] ≡ b ++ y ∷ []
    join e f = cc

-- ---- segments so far

range-append : (a j k : ℕ) → range_with_len a (j + k) ≡ range_with_len a j ++ range_with_len (a + j) k
range-append a zero k = let e : a ≡ a + 0 = omega arith in let f : 0 + k ≡ k = omega arith in ap (range_with_len a) f ∙ ap (λ b. range_with_len b k) e
range-append a (suc j) k =
    let f : suc j + k ≡ suc (j + k) = omega arith in
    let g : a + 1 + j ≡ a + suc j = omega arith in
    ap (range_with_len a) f ∙ ap (λ t. a ∷ t) (range-append (a + 1) j k ∙ ap (λ b. range_with_len (a + 1) j ++ range_with_len b k) g)

same-value : (f : ℕ → ℕ) (n a k : ℕ) → ((r : ℕ) → a ≤ r → r < a + k → f r ≡ n) → map f (range_with_len a k) ≡ replicate k n
same-value f n a zero h = refl
same-value f n a (suc k) h =
    let here = h a (omega arith) (omega arith) in
    let there = same-value f n (a + 1) k (λ r l m. h r (omega arith) (omega arith)) in
    cc (here, there)

pub segments-more : (f : ℕ → ℕ) (segments : List ℕ) (m n : ℕ) → segments ≡ map f (below (length segments)) → length segments ≤ m → ((r : ℕ) → length segments ≤ r → r < m → f r ≡ n)
    → take m segments ++ replicate (m - length segments) n ≡ map f (below m)
segments-more f segments m n made h same =
    let e : m ≡ length segments + (m - length segments) = omega arith in
    let z : 0 + length segments ≡ length segments = omega arith in
    let more : map f (range_with_len (length segments) (m - length segments)) ≡ replicate (m - length segments) n = same-value f n (length segments) (m - length segments) (λ r l k. same r l (omega arith)) in
    join (take_all m segments h ∙ made) (sym more) ∙ sym (map-append f (below (length segments)) (range_with_len (length segments) (m - length segments)))
    ∙ ap (map f) (ap (λ b. below (length segments) ++ range_with_len b (m - length segments)) (sym z) ∙ sym (range-append 0 (length segments) (m - length segments)) ∙ ap below (sym e))
  where
    join : {a b c d : List ℕ} → a ≡ b → c ≡ d → a ++ c ≡ b ++ d
    join e f = cc

-- between the parents of two neighbours, and at the end, as many pairs have a smaller parent
pub before-between : (ps : List (ℕ × ℕ)) (n low r : ℕ) → n ≤ length ps → Each (λ x. x.0 < low) (take n ps) → Each (λ x. r ≤ x.0) (drop n ps) → low ≤ r → before ps r ≡ n
before-between ps n low r inside h k l =
    ap (λ t. before t r) (sym (take-append-drop n ps))
    ∙ before-split (take n ps) (drop n ps) r (Each-weaker (λ x. x.0 < low) (λ x. x.0 < r) (λ x m. omega arith) (take n ps) h) k
    ∙ length-take-le n ps inside
  where
    length-take-le : (n : ℕ) (xs : List (ℕ × ℕ)) → n ≤ length xs → length (take n xs) ≡ n
    length-take-le zero xs h = refl
    length-take-le (suc n) [] h = absurd (omega arith)
    length-take-le (suc n) (x ∷ xs) h = ap suc (length-take-le n xs (omega arith))

-- the parents from a place on are no smaller than the one there
pub no-smaller : (ps : List (ℕ × ℕ)) (n : ℕ) → Sorted (λ x y. x.0 ≤ y.0) ps → n < length ps → Each (λ x. (get_or ps n (0, 0)).0 ≤ x.0) (drop n ps)
no-smaller [] n up h = absurd (omega arith)
no-smaller (p ∷ ps) zero up h = (omega arith, up.0)
no-smaller (p ∷ ps) (suc n) up h = no-smaller ps n up.1 (omega arith)

pub Each-drop-one : (Q : ℕ × ℕ → Type 0) (ps : List (ℕ × ℕ)) (n : ℕ) → n < length ps → Each Q (drop n ps) → Each Q (drop (n + 1) ps)
Each-drop-one Q ps n h all = tail (drop n ps) (drop (n + 1) ps) (get_or ps n (0, 0)) (drop_more ps n (0, 0) h) all
  where
    tail : (a b : List (ℕ × ℕ)) (x : ℕ × ℕ) → a ≡ x ∷ b → Each Q a → Each Q b
    tail a b x e all = (subst (Each Q) e all).1

pub Each-take-one : (Q : ℕ × ℕ → Type 0) (ps : List (ℕ × ℕ)) (n : ℕ) → n < length ps → Each Q (take n ps) → Q (get_or ps n (0, 0)) → Each Q (take (n + 1) ps)
Each-take-one Q ps n h all q = subst (Each Q) (sym (take_more ps n (0, 0) h)) (Each-append Q (take n ps) (get_or ps n (0, 0) ∷ []) all (q, tt))

pub Each-get : {A : Type 0} (Q : A → Type 0) (xs : List A) (n : ℕ) (d : A) → n < length xs → Each Q xs → Q (get_or xs n d)
Each-get Q [] n d h all = absurd (omega arith)
Each-get Q (x ∷ xs) zero d h all = all.0
Each-get Q (x ∷ xs) (suc n) d h all = Each-get Q xs n d (omega arith) all.1

pub Each-take : {A : Type 0} (Q : A → Type 0) (n : ℕ) (xs : List A) → Each Q xs → Each Q (take n xs)
Each-take Q zero xs h = tt
Each-take Q (suc n) [] h = tt
Each-take Q (suc n) (x ∷ xs) h = (h.0, Each-take Q n xs h.1)

-- one row more, whose pair is x
pub record Grown (ps d : List (ℕ × ℕ)) (ranks : List ℕ) (n : ℕ) : Type 0 where
  pub pairs : d ≡ with_pairs [] (take n ps)
  pub inside : Each (λ r. r < length d) ranks
  pub placed : map (λ r. get_or d r (0, 0)) ranks ≡ take n ps

pub grown-more : (ps d d' : List (ℕ × ℕ)) (ranks ranks' : List ℕ) (n r : ℕ) (x : ℕ × ℕ) → n < length ps → x ≡ get_or ps n (0, 0)
    → d ≡ with_pairs [] (take n ps) → Each (λ r. r < length d) ranks → map (λ r. get_or d r (0, 0)) ranks ≡ take n ps
    → d' ≡ with_pair d x → r + 1 ≡ length (with_pair d x) → ranks' ≡ ranks ++ r ∷ [] → Grown ps d' ranks' (n + 1)
grown-more ps d d' ranks ranks' n r x inside is made all placed grown place pushed =
    let g : d' ≡ with_pair d (get_or ps n (0, 0)) = grown ∙ ap (with_pair d) is in
    let p : r + 1 ≡ length (with_pair d (get_or ps n (0, 0))) = place ∙ ap (λ t. length (with_pair d t)) is in
    record {
      pairs = g ∙ ap (λ t. with_pair t (get_or ps n (0, 0))) made ∙ sym (with_pairs-more ps n inside);
      inside = at d' ranks' g pushed (places-more d (get_or ps n (0, 0)) ranks r all p);
      placed = ap (λ t. map (λ r. get_or t r (0, 0)) ranks') g ∙ ap (map (λ r. get_or (with_pair d (get_or ps n (0, 0))) r (0, 0))) pushed
          ∙ placed-more d ps n ranks r inside all p placed;
    }
  where
    at : (d' : List (ℕ × ℕ)) (ranks' : List ℕ) → d' ≡ with_pair d (get_or ps n (0, 0)) → ranks' ≡ ranks ++ r ∷ []
        → Each (λ r. r < length (with_pair d (get_or ps n (0, 0)))) (ranks ++ r ∷ []) → Each (λ r. r < length d') ranks'
    at d' ranks' e f h =
        subst (λ (t : List (ℕ × ℕ)). Each (λ r. r < length t) ranks') (sym e) (subst (Each (λ r. r < length (with_pair d (get_or ps n (0, 0))))) (sym f) h)

-- too many pairs so far are too many in the end
pub many-more : (ps d : List (ℕ × ℕ)) (n most : ℕ) (x : ℕ × ℕ) → n < length ps → x ≡ get_or ps n (0, 0) → d ≡ with_pairs [] (take n ps) → most < length (with_pair d x) → most < length (with_pairs [] ps)
many-more ps d n most x inside is made h =
    let e : length (with_pair d x) ≡ length (with_pairs [] (take (n + 1) ps)) = ap length (ap (λ t. with_pair t x) made ∙ ap (with_pair (with_pairs [] (take n ps))) is ∙ sym (with_pairs-more ps n inside)) in
    let k = with_pairs-front ps (n + 1) in
    omega arith

-- after the last row
pub grown-all : (ps d : List (ℕ × ℕ)) (n : ℕ) → length ps ≤ n → d ≡ with_pairs [] (take n ps) → d ≡ with_pairs [] ps
grown-all ps d n h made = made ∙ ap (with_pairs []) (take_all n ps h)

-- ---- a pass of segments

pub record Segmented (ps : List (ℕ × ℕ)) (segments : List ℕ) (n parents : ℕ) : Type 0 where
  pub made : segments ≡ map (before ps) (below (length segments))
  pub front : Each (λ x. x.0 < length segments) (take n ps)
  pub rest : Each (λ x. length segments ≤ x.0 + 1) (drop n ps)
  pub small : length segments ≤ parents

pub segmented-more : (ps : List (ℕ × ℕ)) (segments segments' : List ℕ) (n parents p : ℕ) → Sorted (λ x y. x.0 ≤ y.0) ps → Each (λ x. x.0 < parents) ps → n < length ps
    → p ≡ (get_or ps n (0, 0)).0 → segments ≡ map (before ps) (below (length segments)) → Each (λ x. x.0 < length segments) (take n ps) → Each (λ x. length segments ≤ x.0 + 1) (drop n ps)
    → segments' ≡ take (p + 1) segments ++ replicate (p + 1 - length segments) n → Segmented ps segments' (n + 1) parents
segmented-more ps segments segments' n parents p up small inside is made front rest resized =
    let least : length segments ≤ (get_or ps n (0, 0)).0 + 1 = head (drop n ps) (drop (n + 1) ps) (get_or ps n (0, 0)) (drop_more ps n (0, 0) inside) rest in
    let h : length segments ≤ p + 1 = omega arith in
    let most : (get_or ps n (0, 0)).0 < parents = Each-get (λ x. x.0 < parents) ps n (0, 0) inside small in
    let later = no-smaller ps n up inside in
    let value : segments' ≡ map (before ps) (below (p + 1))
    = resized ∙ segments-more (before ps) segments (p + 1) n made h
    (λ r l m. before-between ps n (length segments) r (omega arith) front
    (Each-weaker (λ x. (get_or ps n (0, 0)).0 ≤ x.0) (λ x. r ≤ x.0) (λ x k. omega arith) (drop n ps) later) l) in
    let long : length segments' ≡ p + 1 = ap length value ∙ length-map-range_with_len (before ps) 0 (p + 1) in
    record {
      made = value ∙ ap (λ m. map (before ps) (below m)) (sym long);
      front = Each-take-one (λ x. x.0 < length segments') ps n inside (Each-weaker (λ x. x.0 < length segments) (λ x. x.0 < length segments') (λ x k. omega arith) (take n ps) front) (omega arith);
      rest = Each-drop-one (λ x. length segments' ≤ x.0 + 1) ps n inside (Each-weaker (λ x. (get_or ps n (0, 0)).0 ≤ x.0) (λ x. length segments' ≤ x.0 + 1) (λ x k. omega arith) (drop n ps) later);
      small = omega arith;
    }
  where
    head : (a b : List (ℕ × ℕ)) (x : ℕ × ℕ) → a ≡ x ∷ b → Each (λ x. length segments ≤ x.0 + 1) a → length segments ≤ x.0 + 1
    head a b x e all = (subst (Each (λ x. length segments ≤ x.0 + 1)) e all).0

-- the last segments
pub segmented-all : (ps : List (ℕ × ℕ)) (segments segments' : List ℕ) (n parents : ℕ) → length ps ≡ n → segments ≡ map (before ps) (below (length segments))
    → Each (λ x. x.0 < length segments) (take n ps) → length segments ≤ parents
    → segments' ≡ take (parents + 1) segments ++ replicate (parents + 1 - length segments) n → segments' ≡ map (before ps) (below (parents + 1))
segmented-all ps segments segments' n parents e made front small resized =
    resized ∙ segments-more (before ps) segments (parents + 1) n made (omega arith)
    (λ r l m. before-between ps n (length segments) r (omega arith) front (subst (Each (λ x. r ≤ x.0)) (sym (drop_all n ps (omega arith))) tt) l)

-- ---- ranks under a dense level

pub dense-more : (ps : List (ℕ × ℕ)) (n size r c : ℕ) (ranks ranks' : List ℕ) → n < length ps → get_or ps n (0, 0) ≡ (r, c) → ranks ≡ map (λ x. x.0 * size + x.1) (take n ps)
    → ranks' ≡ ranks ++ (r * size + c) ∷ [] → ranks' ≡ map (λ x. x.0 * size + x.1) (take (n + 1) ps)
dense-more ps n size r c ranks ranks' inside is made pushed =
    pushed ∙ join made (ap (λ x. x.0 * size + x.1) (sym is)) ∙ sym (map_more (λ (x : ℕ × ℕ). x.0 * size + x.1) ps n (0, 0) inside)
  where
    join : {a b : List ℕ} {x y : ℕ} → a ≡ b → x ≡ y → a ++ x ∷ [] ≡ b ++ y ∷ []
    join e f = cc

pub dense-fits : (ps : List (ℕ × ℕ)) (n size count r c most : ℕ) → n < length ps → get_or ps n (0, 0) ≡ (r, c) → Each (λ x. (x.0 < count) × (x.1 < size)) ps → count * size ≤ most → r * size + c < most
dense-fits ps n size count r c most inside is all h =
    let at : (r < count) × (c < size) = subst (λ (x : ℕ × ℕ). (x.0 < count) × (x.1 < size)) is (Each-get (λ x. (x.0 < count) × (x.1 < size)) ps n (0, 0) inside all) in
    let k : r * size + c < size * count = mul-add-lt r size c count at.0 at.1 in
    let m : size * count ≡ count * size = mul_comm size count in
    omega arith
