-- Sums over variables that they may be over: each variable is that of one sum, and neither on the left nor outside its sum.
use Rattle.std.proofs.Common.{◌≡◌, ℕ, Bool, true, false, cond, not, ◌&&◌, ◌||◌, List, [], ◌∷◌, ◌++◌, eqb, nat_lt, refl, sym, ap, ap₂, subst}
use Rattle.std.proofs.Common.{◌∙◌}
use Rattle.std.specs.List.{list_all}
use Rattle.std.proofs.lemmas.Bool.{and_parts, and_from, or_parts, or_from, cond-true, eq-eqb, eqb-true}
use Rattle.std.proofs.lemmas.List.Folds.{list_all-append}
use Rattle.sam_model.specs.Lists.{is_in}
use Rattle.sam_model.specs.Trees.{ExprTree, Access, Literal, Times, Plus, Minus, Negate, Sum}
use Rattle.sam_model.specs.Accepted.{distinct}
use Rattle.sam_model.specs.Scopes.{bound_vars, free_vars, are_apart, are_in_range}
use Rattle.sam_model.proofs.Lists.{and-true}
use Rattle.program_file.specs.Checks.{is_twice, binds_wrong, sum_vars}

-- ---- the order of the sums doesn't matter to a test of all

two-parts : (p : ℕ → Bool) (ks ls ms ns : List ℕ) → list_all p ks ≡ list_all p ms → list_all p ls ≡ list_all p ns
    → list_all p (ks ++ ls) ≡ list_all p (ms ++ ns)
two-parts p ks ls ms ns h k = list_all-append p ks ls ∙ ap₂ (λ x y. x && y) h k ∙ sym (list_all-append p ms ns)

and-turned : (a b : Bool) → (a && b) ≡ (b && a)
and-turned true b = sym (and-true b)
and-turned false true = refl
and-turned false false = refl

pub sums-pass : (p : ℕ → Bool) (e : ExprTree) → list_all p (sum_vars e) ≡ list_all p (bound_vars e)
sums-pass p (Access n vars) = refl
sums-pass p (Literal n) = refl
sums-pass p (Times a b) = two-parts p (sum_vars a) (sum_vars b) (bound_vars a) (bound_vars b) (sums-pass p a) (sums-pass p b)
sums-pass p (Plus a b) = two-parts p (sum_vars a) (sum_vars b) (bound_vars a) (bound_vars b) (sums-pass p a) (sums-pass p b)
sums-pass p (Minus a b) = two-parts p (sum_vars a) (sum_vars b) (bound_vars a) (bound_vars b) (sums-pass p a) (sums-pass p b)
sums-pass p (Negate a) = sums-pass p a
sums-pass p (Sum k a) =
    ap (λ b. p k && b) (sums-pass p a) ∙ and-turned (p k) (list_all p (bound_vars a))
    ∙ ap (λ b. list_all p (bound_vars a) && b) (sym (and-true (p k)))
    ∙ sym (list_all-append p (bound_vars a) (k ∷ []))

-- ---- twice, and distinct

twice-step : (b : Bool) (k : ℕ) (ns : List ℕ) → (is_twice k ns ≡ true → is_in k ns ≡ true) → cond b (is_in k ns) (is_twice k ns) ≡ true
    → (b || is_in k ns) ≡ true
twice-step true k ns rest h = refl
twice-step false k ns rest h = rest h

twice-in : (k : ℕ) (ns : List ℕ) → is_twice k ns ≡ true → is_in k ns ≡ true
twice-in k [] h = h
twice-in k (n ∷ ns) h = twice-step (eqb k n) k ns (twice-in k ns) h

twice-more : (k n : ℕ) (ns : List ℕ) → is_twice k (n ∷ ns) ≡ false → is_twice k ns ≡ false
twice-more k n ns h = by_case (eqb k n) (is_twice k ns) refl h
  where
    by_case : (b c : Bool) → is_twice k ns ≡ c → cond b (is_in k ns) (is_twice k ns) ≡ false → c ≡ false
    by_case b false e g = refl
    by_case true true e g = absurd (both (is_in k ns) (twice-in k ns e) g)
      where
        both : (x : Bool) → x ≡ true → x ≡ false → ⊥
        both true p q = absurd cc
        both false p q = absurd cc
    by_case false true e g = sym e ∙ g

not-from : (a : Bool) → not a ≡ true → a ≡ false
not-from true h = sym h
not-from false h = refl

all-less : (n : ℕ) (ns ks : List ℕ) → list_all (λ k. not (is_twice k (n ∷ ns))) ks ≡ true → list_all (λ k. not (is_twice k ns)) ks ≡ true
all-less n ns [] h = refl
all-less n ns (k ∷ ks) h =
    let p = and_parts (not (is_twice k (n ∷ ns))) (list_all (λ k. not (is_twice k (n ∷ ns))) ks) h in
    and_from _ _ (ap not (twice-more k n ns (not-from (is_twice k (n ∷ ns)) p.0))) (all-less n ns ks p.1)

-- where none stands twice, they are distinct
once-distinct : (ns : List ℕ) → list_all (λ k. not (is_twice k ns)) ns ≡ true → distinct ns ≡ true
once-distinct [] h = refl
once-distinct (n ∷ ns) h =
    let p = and_parts (not (is_twice n (n ∷ ns))) (list_all (λ k. not (is_twice k (n ∷ ns))) ns) h in
    let first : is_in n ns ≡ false = sym (cond-true (eqb n n) (is_in n ns) (is_twice n ns) (eq-eqb n n refl))
    ∙ not-from (is_twice n (n ∷ ns)) p.0 in
    and_from _ _ (ap not first) (once-distinct ns (all-less n ns ns p.1))

-- where they are distinct, none stands twice
distinct-step : (k n : ℕ) (ns : List ℕ) → is_in n ns ≡ false → is_twice k ns ≡ false → (b : Bool) → eqb k n ≡ b
    → cond b (is_in k ns) (is_twice k ns) ≡ false
distinct-step k n ns first rest true e = subst (λ m. is_in m ns ≡ false) (sym (eqb-true k n e)) first
distinct-step k n ns first rest false e = rest

pub distinct-once : (k : ℕ) (ns : List ℕ) → distinct ns ≡ true → is_twice k ns ≡ false
distinct-once k [] h = refl
distinct-once k (n ∷ ns) h =
    let p = and_parts (not (is_in n ns)) (distinct ns) h in
    distinct-step k n ns (not-from (is_in n ns) p.0) (distinct-once k ns p.1) (eqb k n) refl

-- ---- sums that are right

pub record SumsApart (count : ℕ) (left : List ℕ) (e : ExprTree) : Type 0 where
  pub in_range : are_in_range count (bound_vars e) ≡ true
  pub apart : distinct (bound_vars e) ≡ true
  pub off_left : are_apart (bound_vars e) left ≡ true
  pub inside : are_apart (bound_vars e) (free_vars e) ≡ true

-- a test of each follows from another
all-then : (p q : ℕ → Bool) → ((k : ℕ) → p k ≡ true → q k ≡ true) → (ks : List ℕ) → list_all p ks ≡ true → list_all q ks ≡ true
all-then p q f [] h = refl
all-then p q f (k ∷ ks) h = let r = and_parts (p k) (list_all p ks) h in and_from _ _ (f k r.0) (all-then p q f ks r.1)

pub sums-apart : (count : ℕ) (left : List ℕ) (e : ExprTree) → are_in_range count (sum_vars e) ≡ true
    → list_all (λ k. not (binds_wrong left e k)) (sum_vars e) ≡ true
    → SumsApart count left e
sums-apart count left e below right =
    let all = sym (sums-pass (λ k. not (binds_wrong left e k)) e) ∙ right in
    record {
      in_range = sym (sums-pass (λ v. nat_lt v count) e) ∙ below;
      apart = once-distinct (bound_vars e) (all-then (λ k. not (binds_wrong left e k)) (λ k. not (is_twice k (bound_vars e)))
          (λ k h. ap not (once k h)) (bound_vars e) all);
      off_left = all-then (λ k. not (binds_wrong left e k)) (λ k. not (is_in k left)) (λ k h. ap not (off k h)) (bound_vars e) all;
      inside = all-then (λ k. not (binds_wrong left e k)) (λ k. not (is_in k (free_vars e))) (λ k h. ap not (held k h)) (bound_vars e) all;
    }
  where
    parts : (k : ℕ) → not (binds_wrong left e k) ≡ true → (is_in k left ≡ false) × ((is_twice k (bound_vars e) || is_in k (free_vars e))
        ≡ false)
    parts k h = or_parts (is_in k left) (is_twice k (bound_vars e) || is_in k (free_vars e)) (not-from (binds_wrong left e k) h)

    off : (k : ℕ) → not (binds_wrong left e k) ≡ true → is_in k left ≡ false
    off k h = (parts k h).0

    once : (k : ℕ) → not (binds_wrong left e k) ≡ true → is_twice k (bound_vars e) ≡ false
    once k h = (or_parts (is_twice k (bound_vars e)) (is_in k (free_vars e)) (parts k h).1).0

    held : (k : ℕ) → not (binds_wrong left e k) ≡ true → is_in k (free_vars e) ≡ false
    held k h = (or_parts (is_twice k (bound_vars e)) (is_in k (free_vars e)) (parts k h).1).1

-- no sum is wrong where they are right
pub apart-right : (count : ℕ) (left : List ℕ) (e : ExprTree) → SumsApart count left e
    → list_all (λ k. not (binds_wrong left e k)) (sum_vars e) ≡ true
apart-right count left e s = sums-pass (λ k. not (binds_wrong left e k)) e ∙ each (bound_vars e) s.off_left s.inside
  where
    one : (k : ℕ) → not (is_in k left) ≡ true → not (is_in k (free_vars e)) ≡ true → not (binds_wrong left e k) ≡ true
    one k off held =
        ap not (or_from (is_in k left) (is_twice k (bound_vars e) || is_in k (free_vars e)) (not-from (is_in k left) off)
        (or_from (is_twice k (bound_vars e)) (is_in k (free_vars e)) (distinct-once k (bound_vars e) s.apart)
        (not-from (is_in k (free_vars e)) held)))

    each : (ks : List ℕ) → are_apart ks left ≡ true → are_apart ks (free_vars e) ≡ true
        → list_all (λ k. not (binds_wrong left e k)) ks ≡ true
    each [] off held = refl
    each (k ∷ ks) off held =
        let p = and_parts (not (is_in k left)) (are_apart ks left) off in
        let q = and_parts (not (is_in k (free_vars e))) (are_apart ks (free_vars e)) held in
        and_from _ _ (one k p.0 q.0) (each ks p.1 q.1)
