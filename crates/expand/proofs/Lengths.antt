-- How many terms an expansion has, and which of them are too long.
use Rattle.std.specs.Prelude.{◌≡◌, ◌<◌, ◌≤◌, ℕ, zero, suc, ◌+◌, ◌*◌, min, Bool, true, false, cond, ◌||◌, List, [], ◌∷◌, ◌++◌, length, slice_index, nat_lt, refl}
use Rattle.std.specs.List.{flat_map}
use mathlib.Core.List.{map}
use Rattle.std.proofs.Common.{◌⊎◌, arith, sym, ◌∙◌, ap, ap₂, suc-mul, inl, inr}
use Rattle.std.proofs.lemmas.Bool.{or_left, or_right, or_cases, ltb-true, lt-ltb}
use Rattle.std.proofs.lemmas.List.{length-append, length-map}
use Rattle.std.proofs.lemmas.List.Folds.{list_any-append}
use Rattle.sam_model.specs.declared.program.Factor.{Factor}
use Rattle.sam_model.specs.declared.program.Factor.TheVariants as factor
use Rattle.sam_model.specs.declared.program.Term.{Term}
use Rattle.sam_model.specs.Trees.{ExprTree, Access, Literal, Times, Plus, Minus, Negate, Sum, TopTree}
use Rattle.sam_model.specs.Accepted.{term_has}
use Rattle.sam_model.specs.Expressions.{turned_term, joined_term, summed_term, expanded, summed_over, with_sign, expanded_tops}
use Rattle.expand.specs.Counting.{term_count, terms_count, is_long, have_long}

-- ---- how many

length_products : (ts us : List Term) → length (flat_map (λ t. map (joined_term t) us) ts) ≡ length ts * length us
length_products [] us = sym (zero_times (length us))
  where
    zero_times : (n : ℕ) → 0 * n ≡ 0
    zero_times n = omega arith
length_products (t ∷ ts) us =
    length-append (map (joined_term t) us) (flat_map (λ t. map (joined_term t) us) ts)
    ∙ ap₂ (λ (m n : ℕ). m + n) (length-map us (joined_term t)) (length_products ts us) ∙ grown (length ts) (length us)
  where
    grown : (m n : ℕ) → n + m * n ≡ suc m * n
    grown m n = let e = suc-mul m n in omega (arith, e)

pub length-expanded : (sizes : List ℕ) (e : ExprTree) → length (expanded sizes e) ≡ term_count e
length-expanded sizes (Access n vars) = refl
length-expanded sizes (Literal n) = refl
length-expanded sizes (Times a b) =
    length_products (expanded sizes a) (expanded sizes b) ∙ ap₂ (λ (m n : ℕ). m * n) (length-expanded sizes a) (length-expanded sizes b)
length-expanded sizes (Plus a b) =
    length-append (expanded sizes a) (expanded sizes b) ∙ ap₂ (λ (m n : ℕ). m + n) (length-expanded sizes a) (length-expanded sizes b)
length-expanded sizes (Minus a b) =
    length-append (expanded sizes a) (map turned_term (expanded sizes b))
    ∙ ap₂ (λ (m n : ℕ). m + n) (length-expanded sizes a) (length-map (expanded sizes b) turned_term ∙ length-expanded sizes b)
length-expanded sizes (Negate a) = length-map (expanded sizes a) turned_term ∙ length-expanded sizes a
length-expanded sizes (Sum k a) = length-map (expanded sizes a) (summed_term sizes k) ∙ length-expanded sizes a

length_over : (sizes ks : List ℕ) (ts : List Term) → length (summed_over sizes ks ts) ≡ length ts
length_over sizes [] ts = refl
length_over sizes (k ∷ ks) ts = length_over sizes ks (map (summed_term sizes k) ts) ∙ length-map ts (summed_term sizes k)

length_sign : (sizes : List ℕ) (minus : Bool) (ts : List Term) → length (with_sign sizes minus ts) ≡ length ts
length_sign sizes true ts = length-map ts turned_term
length_sign sizes false ts = refl

pub length-expanded_tops : (sizes : List ℕ) (tops : List TopTree) → length (expanded_tops sizes tops) ≡ terms_count tops
length-expanded_tops sizes [] = refl
length-expanded_tops sizes (t ∷ tops) =
    length-append (with_sign sizes t.minus (summed_over sizes t.implied (expanded sizes t.body))) (expanded_tops sizes tops)
    ∙ ap₂ (λ (m n : ℕ). m + n)
    (length_sign sizes t.minus (summed_over sizes t.implied (expanded sizes t.body))
    ∙ length_over sizes t.implied (expanded sizes t.body) ∙ length-expanded sizes t.body)
    (length-expanded_tops sizes tops)

some_product : (m n : ℕ) → 0 < m → 0 < n → 0 < m * n
some_product zero n h k = absurd (omega (arith, h))
some_product (suc m) n h k = let e = suc-mul m n in omega (arith, e, k)

-- an expression has terms
pub some-expanded : (sizes : List ℕ) (e : ExprTree) → 0 < length (expanded sizes e)
some-expanded sizes (Access n vars) = omega arith
some-expanded sizes (Literal n) = omega arith
some-expanded sizes (Times a b) =
    let e = length_products (expanded sizes a) (expanded sizes b) in
    let f = some_product (length (expanded sizes a)) (length (expanded sizes b)) (some-expanded sizes a) (some-expanded sizes b) in
    omega (arith, e, f)
some-expanded sizes (Plus a b) =
    let e = length-append (expanded sizes a) (expanded sizes b) in let f = some-expanded sizes a in omega (arith, e, f)
some-expanded sizes (Minus a b) =
    let e = length-append (expanded sizes a) (map turned_term (expanded sizes b)) in let f = some-expanded sizes a in omega (arith, e, f)
some-expanded sizes (Negate a) = let e = length-map (expanded sizes a) turned_term in let f = some-expanded sizes a in omega (arith, e, f)
some-expanded sizes (Sum k a) =
    let e = length-map (expanded sizes a) (summed_term sizes k) in let f = some-expanded sizes a in omega (arith, e, f)

-- ---- which are too long

pub long-append : (ts us : List Term) → have_long (ts ++ us) ≡ (have_long ts || have_long us)
long-append ts us = list_any-append is_long ts us

pub long-turned : (ts : List Term) → have_long (map turned_term ts) ≡ have_long ts
long-turned [] = refl
long-turned (t ∷ ts) = ap (λ b. is_long t || b) (long-turned ts)

-- what is longer than a long one is long
longer : (m n : ℕ) → m ≤ n → nat_lt 8 m ≡ true → nat_lt 8 n ≡ true
longer m n h e = let f : 8 < m = ltb-true 8 m e in lt-ltb 8 n (omega (arith, f, h))

long_joined : (t u : Term) → is_long u ≡ true → is_long (joined_term t u) ≡ true
long_joined t u h =
    let e = length-append t.factors u.factors in longer (length u.factors) (length (t.factors ++ u.factors)) (omega (arith, e)) h

long_joined_left : (t u : Term) → is_long t ≡ true → is_long (joined_term t u) ≡ true
long_joined_left t u h =
    let e = length-append t.factors u.factors in longer (length t.factors) (length (t.factors ++ u.factors)) (omega (arith, e)) h

long_row : (t : Term) (us : List Term) → have_long us ≡ true → have_long (map (joined_term t) us) ≡ true
long_row t [] h = h
long_row t (u ∷ us) h = by_case (or_cases (is_long u) (have_long us) h) (long_row t us)
  where
    by_case : (is_long u ≡ true) ⊎ (have_long us ≡ true) → (have_long us ≡ true → have_long (map (joined_term t) us) ≡ true)
        → (is_long (joined_term t u) || have_long (map (joined_term t) us)) ≡ true
    by_case (inl e) r = or_left (is_long (joined_term t u)) (have_long (map (joined_term t) us)) (long_joined t u e)
    by_case (inr e) r = or_right (is_long (joined_term t u)) (have_long (map (joined_term t) us)) (r e)

-- of a product, where a side has a long term
pub long-right : (ts us : List Term) → 0 < length ts → have_long us ≡ true → have_long (flat_map (λ t. map (joined_term t) us) ts) ≡ true
long-right [] us some h = absurd (omega (arith, some))
long-right (t ∷ ts) us some h =
    long-append (map (joined_term t) us) (flat_map (λ t. map (joined_term t) us) ts)
    ∙ or_left (have_long (map (joined_term t) us)) (have_long (flat_map (λ t. map (joined_term t) us) ts)) (long_row t us h)

long_first : (t : Term) (us : List Term) → 0 < length us → is_long t ≡ true → have_long (map (joined_term t) us) ≡ true
long_first t [] some h = absurd (omega (arith, some))
long_first t (u ∷ us) some h = or_left (is_long (joined_term t u)) (have_long (map (joined_term t) us)) (long_joined_left t u h)

pub long-left : (ts us : List Term) → 0 < length us → have_long ts ≡ true → have_long (flat_map (λ t. map (joined_term t) us) ts) ≡ true
long-left [] us some h = h
long-left (t ∷ ts) us some h =
    long-append (map (joined_term t) us) (flat_map (λ t. map (joined_term t) us) ts)
    ∙ by_case (or_cases (is_long t) (have_long ts) h) (long-left ts us some)
  where
    by_case : (is_long t ≡ true) ⊎ (have_long ts ≡ true) → (have_long ts ≡ true → have_long (flat_map (λ t. map (joined_term t) us) ts) ≡ true)
        → (have_long (map (joined_term t) us) || have_long (flat_map (λ t. map (joined_term t) us) ts)) ≡ true
    by_case (inl e) r = or_left (have_long (map (joined_term t) us)) (have_long (flat_map (λ t. map (joined_term t) us) ts)) (long_first t us some e)
    by_case (inr e) r = or_right (have_long (map (joined_term t) us)) (have_long (flat_map (λ t. map (joined_term t) us) ts)) (r e)

long_summed : (sizes : List ℕ) (k : ℕ) (t : Term) → is_long t ≡ true → is_long (summed_term sizes k t) ≡ true
long_summed sizes k t h = by_case (term_has t k)
  where
    more : List Factor
    more = t.factors ++ factor.Literal (slice_index sizes k) ∷ []

    by_case : (b : Bool) → is_long (cond b t (record t { factors = more })) ≡ true
    by_case true = h
    by_case false =
        let e = length-append t.factors (factor.Literal (slice_index sizes k) ∷ []) in longer (length t.factors) (length more) (omega (arith, e)) h

pub long-summed : (sizes : List ℕ) (k : ℕ) (ts : List Term) → have_long ts ≡ true → have_long (map (summed_term sizes k) ts) ≡ true
long-summed sizes k [] h = h
long-summed sizes k (t ∷ ts) h = by_case (or_cases (is_long t) (have_long ts) h) (long-summed sizes k ts)
  where
    by_case : (is_long t ≡ true) ⊎ (have_long ts ≡ true) → (have_long ts ≡ true → have_long (map (summed_term sizes k) ts) ≡ true)
        → (is_long (summed_term sizes k t) || have_long (map (summed_term sizes k) ts)) ≡ true
    by_case (inl e) r = or_left (is_long (summed_term sizes k t)) (have_long (map (summed_term sizes k) ts)) (long_summed sizes k t e)
    by_case (inr e) r = or_right (is_long (summed_term sizes k t)) (have_long (map (summed_term sizes k) ts)) (r e)

pub long-over : (sizes ks : List ℕ) (ts : List Term) → have_long ts ≡ true → have_long (summed_over sizes ks ts) ≡ true
long-over sizes [] ts h = h
long-over sizes (k ∷ ks) ts h = long-over sizes ks (map (summed_term sizes k) ts) (long-summed sizes k ts h)

pub long-sign : (sizes : List ℕ) (minus : Bool) (ts : List Term) → have_long (with_sign sizes minus ts) ≡ have_long ts
long-sign sizes true ts = long-turned ts
long-sign sizes false ts = refl

-- where the first of several sums makes a long term
pub long-first_over : (sizes ks : List ℕ) (ts : List Term) → 0 < length ks → have_long (map (summed_term sizes (slice_index ks 0)) ts) ≡ true
    → have_long (summed_over sizes ks ts) ≡ true
long-first_over sizes [] ts some h = absurd (omega (arith, some))
long-first_over sizes (k ∷ ks) ts some h = long-over sizes ks (map (summed_term sizes k) ts) h

-- ---- counted to one more than there may be

pub many-tops : (sizes : List ℕ) (tops : List TopTree) (r : ℕ) → r ≡ min (terms_count tops) 17 → 16 < r → 16 < length (expanded_tops sizes tops)
many-tops sizes tops r e h = let l = length-expanded_tops sizes tops in omega (arith, e, h, l)

pub few-tops : (sizes : List ℕ) (tops : List TopTree) (r : ℕ) → r ≡ min (terms_count tops) 17 → r ≤ 16 → length (expanded_tops sizes tops) ≤ 16
few-tops sizes tops r e h = let l = length-expanded_tops sizes tops in omega (arith, e, h, l)
