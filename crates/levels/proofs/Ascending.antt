-- The stored prefixes of a length ascend, and their ranks are their places.
use Rattle.std.proofs.Common.{◌≡◌, ℕ, zero, suc, ◌+◌, ◌<◌, ◌≤◌, Bool, true, false, cond, ◌&&◌, ◌||◌, List, [], ◌∷◌, ◌++◌, length, take, eqb, ltb, refl, ap, sym, ◌∙◌, subst, arith, append_assoc, length-append, inl, inr, ◌⊎◌}
use Rattle.std.specs.Prelude.{slice_get, Some}
use Rattle.std.specs.List.{flat_map, filter, range_with_len}
use mathlib.Core.List.{map}
use Rattle.std.proofs.lemmas.Bool.Decides.{nat_tests}
use Rattle.std.proofs.lemmas.List.{length_push}
use Rattle.sam_model.specs.declared.tensors.Format.{Format}
use Rattle.sam_model.specs.Lists.{tuples, same_list, smaller}
use Rattle.sam_model.specs.Tensors.{Stored, is_stored, stored_prefixes, rank_of}
use Rattle.sam_model.specs.Children.{next_coordinates, children_under, children_of}
use Rattle.sam_base.specs.Each.{Each}
use Rattle.sam_model.proofs.Lists.{map-ext-each, Each-append, Each-right, Each-mapped, Each-always, Each-weaker, Each-filter, filter-none-each}
use Rattle.levels.specs.Placed.{list_at}
use Rattle.sam_model.proofs.Orders.{same_list-self, same_list-true}
use Rattle.levels.proofs.Orders.{eqb-same, ltb-irrefl, smaller-irrefl, smaller-asym}
use Rattle.sam_model.proofs.Tuples.{tuples-front-long}
use Rattle.levels.proofs.Prefixes.{longer, longer-length, prefixes-more}

-- each list comes before those after it
abbrev pub Ascending : List (List ℕ) → Type 0
Ascending [] = Unit {0}
Ascending (p ∷ ps) = Each (λ q. smaller p q ≡ true) ps × Ascending ps

pub Ascending-append : (ps qs : List (List ℕ)) → Ascending ps → Ascending qs → Each (λ p. Each (λ q. smaller p q ≡ true) qs) ps → Ascending (ps ++ qs)
Ascending-append [] qs up vp all = vp
Ascending-append (p ∷ ps) qs up vp all = (Each-append (λ q. smaller p q ≡ true) ps qs up.0 all.0, Ascending-append ps qs up.1 vp all.1)

pub Ascending-right : (ps qs : List (List ℕ)) → Ascending (ps ++ qs) → Ascending qs
Ascending-right [] qs up = up
Ascending-right (p ∷ ps) qs up = Ascending-right ps qs up.1

pub Ascending-filter : (t : List ℕ → Bool) (ps : List (List ℕ)) → Ascending ps → Ascending (filter t ps)
Ascending-filter t [] up = tt
Ascending-filter t (p ∷ ps) up = by_case (t p) (Ascending-filter t ps up.1)
  where
    by_case : (b : Bool) → Ascending (filter t ps) → Ascending (cond b (p ∷ filter t ps) (filter t ps))
    by_case true r = (Each-filter (λ q. smaller p q ≡ true) t ps up.0, r)
    by_case false r = r

headed : (c : ℕ) (b : Bool) → (ltb c c || (eqb c c && b)) ≡ b
headed c b = rw (ltb-irrefl c, eqb-same c)

pub Ascending-headed : (c : ℕ) (ps : List (List ℕ)) → Ascending ps → Ascending (map (λ u. c ∷ u) ps)
Ascending-headed c [] up = tt
Ascending-headed c (p ∷ ps) up = (
  Each-mapped (λ q. smaller (c ∷ p) q ≡ true) (λ u. c ∷ u) ps (Each-weaker (λ q. smaller p q ≡ true) (λ q. smaller (c ∷ p) (c ∷ q) ≡ true) (λ q h. headed c (smaller p q) ∙ h) ps up.0),
  Ascending-headed c ps up.1,
)

first-below : (c d : ℕ) (b : Bool) → c < d → (ltb c d || (eqb c d && b)) ≡ true
first-below c d b h = grind (arith, nat_tests)

-- each list begins with a number from a on
abbrev pub From : ℕ → List ℕ → Type 0
From a [] = ⊥
From a (c ∷ p) = a ≤ c

from-later : (a : ℕ) (p : List ℕ) → From (a + 1) p → From a p
from-later a [] h = h
from-later a (c ∷ p) h = omega arith

all-from : (ts : List (List ℕ)) (a n : ℕ) → Each (From a) (flat_map (λ c. map (λ u. c ∷ u) ts) (range_with_len a n))
all-from ts a zero = tt
all-from ts a (suc n) =
    Each-append (From a) (map (λ u. a ∷ u) ts) (flat_map (λ c. map (λ u. c ∷ u) ts) (range_with_len (a + 1) n))
    (Each-mapped (From a) (λ u. a ∷ u) ts (Each-always (λ u. a ≤ a) (λ u. omega arith) ts))
    (Each-weaker (From (a + 1)) (From a) (from-later a) (flat_map (λ c. map (λ u. c ∷ u) ts) (range_with_len (a + 1) n)) (all-from ts (a + 1) n))

later : (a : ℕ) (u q : List ℕ) → From (a + 1) q → smaller (a ∷ u) q ≡ true
later a u [] h = absurd h
later a u (c ∷ q) h = first-below a c (smaller u q) (omega arith)

pub Ascending-range : (ts : List (List ℕ)) → Ascending ts → (a n : ℕ) → Ascending (flat_map (λ c. map (λ u. c ∷ u) ts) (range_with_len a n))
Ascending-range ts up a zero = tt
Ascending-range ts up a (suc n) =
    Ascending-append (map (λ u. a ∷ u) ts) (flat_map (λ c. map (λ u. c ∷ u) ts) (range_with_len (a + 1) n))
    (Ascending-headed a ts up) (Ascending-range ts up (a + 1) n)
    (Each-mapped (λ p. Each (λ q. smaller p q ≡ true) (flat_map (λ c. map (λ u. c ∷ u) ts) (range_with_len (a + 1) n))) (λ u. a ∷ u) ts
    (Each-always (λ u. Each (λ q. smaller (a ∷ u) q ≡ true) (flat_map (λ c. map (λ u. c ∷ u) ts) (range_with_len (a + 1) n)))
    (λ u. Each-weaker (From (a + 1)) (λ q. smaller (a ∷ u) q ≡ true) (later a u) (flat_map (λ c. map (λ u. c ∷ u) ts) (range_with_len (a + 1) n)) (all-from ts (a + 1) n))
    ts))

pub tuples-ascend : (sizes : List ℕ) → Ascending (tuples sizes)
tuples-ascend [] = (tt, tt)
tuples-ascend (s ∷ sizes) = Ascending-range (tuples sizes) (tuples-ascend sizes) 0 s

pub prefixes-ascend : (a : Stored) (k : ℕ) → Ascending (stored_prefixes a k)
prefixes-ascend a k = Ascending-filter (is_stored a) (tuples (take k a.sizes)) (tuples-ascend (take k a.sizes))

-- ---- ranks are places

abbrev pub rank_in : List (List ℕ) → List ℕ → ℕ
rank_in ps p = length (filter (λ q. smaller q p) ps)

pub rank-at : (done : List (List ℕ)) (p : List ℕ) (more : List (List ℕ)) → Ascending (done ++ p ∷ more) → rank_in (done ++ p ∷ more) p ≡ length done
rank-at [] p more up =
    ap (λ b. length (cond b (p ∷ filter (λ q. smaller q p) more) (filter (λ q. smaller q p) more))) (smaller-irrefl p)
    ∙ ap length (filter-none-each (λ q. smaller q p) more (Each-weaker (λ q. smaller p q ≡ true) (λ q. smaller q p ≡ false) (λ q h. smaller-asym p q h) more up.0))
rank-at (d ∷ done) p more up =
    let first : smaller d p ≡ true = (Each-right (λ q. smaller d q ≡ true) done (p ∷ more) up.0).0 in
    rw first (ap suc (rank-at done p more up.1))

-- coordinates with ranks from n on, for one parent and for each of some parents
abbrev pub number : ℕ → List ℕ → List (ℕ × ℕ)
number n [] = []
number n (c ∷ cs) = (c, n) ∷ number (n + 1) cs

abbrev pub number_all : ℕ → List (List ℕ) → List (List (ℕ × ℕ))
number_all n [] = []
number_all n (cs ∷ css) = number n cs ∷ number_all (n + length cs) css

numbered-one : (ps : List (List ℕ)) → Ascending ps → (p cs : List ℕ) (done more : List (List ℕ)) (n : ℕ) → length done ≡ n → ps ≡ done ++ (map (longer p) cs ++ more)
    → map (λ c. (c, rank_in ps (longer p c))) cs ≡ number n cs
numbered-one ps up p [] done more n e h = refl
numbered-one ps up p (c ∷ cs) done more n e h =
    let here : rank_in ps (longer p c) ≡ n =
    (let up' : Ascending (done ++ longer p c ∷ (map (longer p) cs ++ more)) = subst Ascending h up in
    ap (λ qs. rank_in qs (longer p c)) h ∙ rank-at done (longer p c) (map (longer p) cs ++ more) up' ∙ e) in
    let shift : ps ≡ (done ++ longer p c ∷ []) ++ (map (longer p) cs ++ more) = h ∙ sym (append_assoc done (longer p c ∷ []) (map (longer p) cs ++ more)) in
    let long : length (done ++ longer p c ∷ []) ≡ n + 1 = omega (arith, length_push done (longer p c)) in
    let rest = numbered-one ps up p cs (done ++ longer p c ∷ []) more (n + 1) long shift in
    cc

numbered-all : (ps : List (List ℕ)) → Ascending ps → (next : List ℕ → List ℕ) (parents : List (List ℕ)) (done : List (List ℕ)) (n : ℕ) → length done ≡ n
    → ps ≡ done ++ flat_map (λ p. map (longer p) (next p)) parents
    → map (λ p. map (λ c. (c, rank_in ps (longer p c))) (next p)) parents ≡ number_all n (map next parents)
numbered-all ps up next [] done n e h = refl
numbered-all ps up next (p ∷ parents) done n e h =
    let here = numbered-one ps up p (next p) done (flat_map (λ p. map (longer p) (next p)) parents) n e h in
    let shift : ps ≡ (done ++ map (longer p) (next p)) ++ flat_map (λ p. map (longer p) (next p)) parents
    = h ∙ sym (append_assoc done (map (longer p) (next p)) (flat_map (λ p. map (longer p) (next p)) parents)) in
    let long : length (done ++ map (longer p) (next p)) ≡ n + length (next p) = length-append done (map (longer p) (next p)) ∙ two (length-longer p (next p)) e in
    let rest = numbered-all ps up next parents (done ++ map (longer p) (next p)) (n + length (next p)) long shift in
    cc
  where
    length-longer : (p : List ℕ) (cs : List ℕ) → length (map (longer p) cs) ≡ length cs
    length-longer p [] = refl
    length-longer p (c ∷ cs) = ap suc (length-longer p cs)

    two : {a b c d : ℕ} → a ≡ b → c ≡ d → c + a ≡ d + b
    two ab cd = cc

pub prefixes-long : (a : Stored) (k : ℕ) → k ≤ length a.sizes → Each (λ p. length p ≡ k) (stored_prefixes a k)
prefixes-long a k h = Each-filter (λ p. length p ≡ k) (is_stored a) (tuples (take k a.sizes)) (tuples-front-long a.sizes k h)

-- the children at a level are numbered through
pub children-numbered : (a : Stored) (k : ℕ) (f : Format) → k < length a.sizes → slice_get a.formats k ≡ Some f
    → children_of a (suc k) ≡ number_all 0 (map (next_coordinates a) (stored_prefixes a k))
children-numbered a k f h at =
    map-ext-each (λ p. length p ≡ k) (children_under a) (λ p. map (λ c. (c, rank_in (stored_prefixes a (suc k)) (longer p c))) (next_coordinates a p))
    (λ p long. map-ext-each (λ (c : ℕ). Unit {0}) (λ c. (c, rank_of a (longer p c))) (λ c. (c, rank_in (stored_prefixes a (suc k)) (longer p c)))
    (λ c _. ap (λ n. (c, rank_in (stored_prefixes a n) (longer p c))) (longer-length p c k long)) (next_coordinates a p)
    (Each-always (λ (c : ℕ). Unit {0}) (λ c. tt) (next_coordinates a p)))
    (stored_prefixes a k) (prefixes-long a k (omega arith))
    ∙ numbered-all (stored_prefixes a (suc k)) (prefixes-ascend a (suc k)) (next_coordinates a) (stored_prefixes a k) [] 0 refl (prefixes-more a k h)

-- ---- places are apart

pub ascending-at : (ps : List (List ℕ)) → Ascending ps → (i j : ℕ) → i < j → j < length ps → smaller (list_at ps i) (list_at ps j) ≡ true
ascending-at [] up i j h l = absurd (omega arith)
ascending-at (p ∷ ps) up zero zero h l = absurd (omega arith)
ascending-at (p ∷ ps) up zero (suc j) h l = later_than ps up.0 j (omega arith)
  where
    later_than : (qs : List (List ℕ)) → Each (λ q. smaller p q ≡ true) qs → (j : ℕ) → j < length qs → smaller p (list_at qs j) ≡ true
    later_than [] all j l = absurd (omega arith)
    later_than (q ∷ qs) all zero l = all.0
    later_than (q ∷ qs) all (suc j) l = later_than qs all.1 j (omega arith)
ascending-at (p ∷ ps) up (suc i) zero h l = absurd (omega arith)
ascending-at (p ∷ ps) up (suc i) (suc j) h l = ascending-at ps up.1 i j (omega arith) (omega arith)

below-or : (i j : ℕ) → (i < j) ⊎ ((i ≡ j) ⊎ (j < i))
below-or zero zero = inr (inl refl)
below-or zero (suc j) = inl (omega arith)
below-or (suc i) zero = inr (inr (omega arith))
below-or (suc i) (suc j) = elim (below-or i j) [ inl h ↦ inl (omega arith) | inr h ↦ elim h [ inl e ↦ inr (inl (ap suc e)) | inr g ↦ inr (inr (omega arith)) ] ]

apart : (i j : ℕ) → i < j → eqb i j ≡ false
apart i j h = grind (arith, nat_tests)

apart-up : (i j : ℕ) → j < i → eqb i j ≡ false
apart-up i j h = grind (arith, nat_tests)

differ : (p q : List ℕ) → smaller p q ≡ true → same_list p q ≡ false
differ p q h = by_case (same_list p q) refl
  where
    by_case : (b : Bool) → same_list p q ≡ b → same_list p q ≡ false
    by_case false e = e
    by_case true e = let s = same_list-true p q e in let i = smaller-irrefl q in let g : smaller q q ≡ true = subst (λ (u : List ℕ). smaller u q ≡ true) s h in cc

differ-up : (p q : List ℕ) → smaller q p ≡ true → same_list p q ≡ false
differ-up p q h = by_case (same_list p q) refl
  where
    by_case : (b : Bool) → same_list p q ≡ b → same_list p q ≡ false
    by_case false e = e
    by_case true e = let s = same_list-true p q e in let i = smaller-irrefl q in let g : smaller q q ≡ true = subst (λ (u : List ℕ). smaller q u ≡ true) s h in cc

pub same-place : (ps : List (List ℕ)) → Ascending ps → (i j : ℕ) → i < length ps → j < length ps → same_list (list_at ps i) (list_at ps j) ≡ eqb i j
same-place ps up i j h l =
    elim (below-or i j) [
      | inl b ↦ differ (list_at ps i) (list_at ps j) (ascending-at ps up i j b l) ∙ sym (apart i j b)
      | inr e ↦ elim e [
        | inl s ↦ ap (λ n. same_list (list_at ps i) (list_at ps n)) (sym s) ∙ same_list-self (list_at ps i) ∙ sym (eqb-same i) ∙ ap (eqb i) s
        | inr g ↦ differ-up (list_at ps i) (list_at ps j) (ascending-at ps up j i g h) ∙ sym (apart-up i j g)
      ]
    ]
