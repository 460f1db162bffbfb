-- How deep the trees of an accepted program are, and how many loops of the left come after one that is reduced.
use Rattle.std.specs.Prelude.{◌≡◌, ◌⊎◌, ◌<◌, ◌≤◌, ℕ, zero, suc, ◌+◌, Bool, true, false, cond, ◌&&◌, ◌||◌, List, [], ◌∷◌, ◌++◌, length, slice_index, nat_le, nat_lt, count_by, refl}
use Rattle.std.specs.List.{filter, list_any, list_all, range_with_len}
use mathlib.Core.List.{map}
use Rattle.std.proofs.Common.{arith, sym, ◌∙◌, ap, subst, inl, inr}
use Rattle.std.proofs.lemmas.Bool.{and_parts, and_from, or_cases, leb-true, lt-ltb, cases_lt, both_ways}
use Rattle.std.proofs.lemmas.List.{length-map}
use Rattle.std.proofs.lemmas.List.Sums.{length-filter}
use Rattle.std.proofs.lemmas.Map.Made.{length-le_from_is_member}
use Rattle.sam_model.specs.declared.program.Factor.{Factor}
use Rattle.sam_model.specs.declared.program.Term.{Term}
use Rattle.sam_model.specs.declared.program.Program.{Program}
use Rattle.sam_model.specs.Lists.{is_in}
use Rattle.sam_model.specs.Denote.{vars_of, has_var, loops_of, Loop, loop_list}
use Rattle.sam_model.specs.Accepted.{is_access, term_has, factor_fits, reduces, factor_reduces, term_fits}
use Rattle.sam_model.specs.Program.{accepted}
use Rattle.stream_tokens.specs.Shapes.{Each}
use Rattle.stream_model.specs.Trees.{kept_sizes}
use Rattle.sam_model.proofs.Lists.{filter-range}
use Rattle.sam_model.proofs.Orders.{number_equality, list_all-member, is_in-filter, Rises, Rises-weaker, Rises-range, rises-distinct, not-above}
use Rattle.sam_model.proofs.AcceptedPrograms.{accepted-parts}
use Rattle.stream_model.proofs.Places.{kept-sizes-map}

-- ---- the number of loops

-- no more pass a test than there are
pub filter-short : (test : ℕ → Bool) (a n : ℕ) → length (filter test (range_with_len a n)) ≤ n
filter-short test a zero = omega arith
filter-short test a (suc n) = by_case (test a) (filter-short test (a + 1) n)
  where
    by_case : (b : Bool) → length (filter test (range_with_len (a + 1) n)) ≤ n
        → length (cond b (a ∷ filter test (range_with_len (a + 1) n)) (filter test (range_with_len (a + 1) n))) ≤ suc n
    by_case true h = omega (arith, h)
    by_case false h = omega (arith, h)

pub accepted-few : (p : Program) → accepted p ≡ true → length p.var_sizes < 9
accepted-few p h = let few = (accepted-parts p h).few in omega (arith, few)

-- a term has at most eight loops
pub term-few : (p : Program) (t : Term) → accepted p ≡ true → length (loop_list p t) < 9
term-few p t h =
    let long : length (loop_list p t) ≡ length (loops_of p t) = length-map (loops_of p t) (λ v. (slice_index p.var_sizes v, is_in v p.left)) in
    omega (arith, long, accepted-few p h, filter-short (λ v. list_any (has_var v) t.factors) 0 (length p.var_sizes))

-- ---- the loops after a reduced one

-- a list that a map gives, taken apart
record Apart (f : ℕ → Loop) (vs : List ℕ) (l : Loop) (after : List Loop) : Type 0 where
  first : List ℕ
  here : ℕ
  rest : List ℕ
  whole : vs ≡ first ++ here ∷ rest
  at : f here ≡ l
  others : map f rest ≡ after

taken_apart : (f : ℕ → Loop) (vs : List ℕ) (before : List Loop) (l : Loop) (after : List Loop) → map f vs ≡ before ++ l ∷ after → Apart f vs l after
taken_apart f [] [] l after e = absurd (cc)
taken_apart f [] (b ∷ before) l after e = absurd (cc)
taken_apart f (v ∷ vs) [] l after e =
    let one : f v ≡ l = cc in
    let more : map f vs ≡ after = cc in
    record { first = []; here = v; rest = vs; whole = refl; at = one; others = more }
taken_apart f (v ∷ vs) (b ∷ before) l after e =
    let more : map f vs ≡ before ++ l ∷ after = cc in
    let r : Apart f vs l after = taken_apart f vs before l after more in
    record { first = v ∷ r.first; here = r.here; rest = r.rest; whole = ap (λ (xs : List ℕ). v ∷ xs) r.whole; at = r.at; others = r.others }

rises_after : (a : ℕ) (xs : List ℕ) (v : ℕ) (ys : List ℕ) → Rises a (xs ++ v ∷ ys) → Rises (suc v) ys
rises_after a [] v ys r = r.1
rises_after a (x ∷ xs) v ys r = rises_after (suc x) xs v ys r.1

each_at : (Q : ℕ → Type 0) (xs : List ℕ) (v : ℕ) (ys : List ℕ) → Each Q (xs ++ v ∷ ys) → Q v
each_at Q [] v ys e = e.0
each_at Q (x ∷ xs) v ys e = each_at Q xs v ys e.1

reduces_at : (left : List ℕ) (factors : List Factor) (v : ℕ) → list_all (factor_reduces left) factors ≡ true → list_any (has_var v) factors ≡ true → reduces left v ≡ true
reduces_at left [] v h k = absurd (cc)
reduces_at left (f ∷ factors) v h k =
    by_case (or_cases (has_var v f) (list_any (has_var v) factors) k) (reduces_at left factors v (and_parts (factor_reduces left f) (list_all (factor_reduces left) factors) h).1)
  where
    by_case : (has_var v f ≡ true) ⊎ (list_any (has_var v) factors ≡ true) → (list_any (has_var v) factors ≡ true → reduces left v ≡ true) → reduces left v ≡ true
    by_case (inl e) r = list_all-member (reduces left) (vars_of f) v (and_parts (factor_reduces left f) (list_all (factor_reduces left) factors) h).0 e
    by_case (inr e) r = r e

rises_filter : (test : ℕ → Bool) (a : ℕ) (xs : List ℕ) → Rises a xs → Rises a (filter test xs)
rises_filter test a [] r = tt
rises_filter test a (x ∷ xs) r = by_case (test x) (rises_filter test (suc x) xs r.1)
  where
    by_case : (b : Bool) → Rises (suc x) (filter test xs) → Rises a (cond b (x ∷ filter test xs) (filter test xs))
    by_case true h = (r.0, h)
    by_case false h = Rises-weaker (suc x) a (filter test xs) (omega (arith, r.0)) h

-- of rising numbers above v, those of the left are no more than the left has above v
left_above : (left ys : List ℕ) (v : ℕ) → Rises (suc v) ys → length (filter (λ w. is_in w left) ys) ≤ count_by (nat_lt v) left
left_above left ys v r =
    let most : length (filter (λ w. is_in w left) ys) ≤ length (filter (nat_lt v) left) =
    length-le_from_is_member number_equality (filter (λ w. is_in w left) ys) (filter (nat_lt v) left)
    (rises-distinct (suc v) (filter (λ w. is_in w left) ys) (rises_filter (λ w. is_in w left) (suc v) ys r)) member
    in
    omega (arith, most, length-filter (nat_lt v) left)
  where
    above : (q : ℕ) → is_in q ys ≡ true → v < q
    above q e = by_case (cases_lt v q)
      where
        by_case : (v < q) ⊎ (q ≤ v) → v < q
        by_case (inl l) = l
        by_case (inr l) = absurd (both_ways (is_in q ys) (not-above q (suc v) ys (omega (arith, l)) r) e)

    member : (q : ℕ) → is_in q (filter (λ w. is_in w left) ys) ≡ true → is_in q (filter (nat_lt v) left) ≡ true
    member q e =
        let k = and_parts (is_in q ys) (is_in q left) (sym (is_in-filter (λ w. is_in w left) q ys) ∙ e) in
        is_in-filter (nat_lt v) q left ∙ and_from (is_in q left) (nat_lt v q) k.1 (lt-ltb v q (above q k.0))

sixth_of : (a b c d e f : Bool) → (a && (b && (c && (d && (e && f))))) ≡ true → f ≡ true
sixth_of true true true true true f k = k
sixth_of true true true true false f k = absurd (cc)
sixth_of true true true false e f k = absurd (cc)
sixth_of true true false d e f k = absurd (cc)
sixth_of true false c d e f k = absurd (cc)
sixth_of false b c d e f k = absurd (cc)

-- at most two loops of the left come after one that isn't
pub term-shallow : (p : Program) (t : Term) (before : List Loop) (s : ℕ) (after : List Loop) → term_fits p.tensors p.var_sizes p.left t ≡ true
    → loop_list p t ≡ before ++ (s, false) ∷ after → length (kept_sizes after) ≤ 2
term-shallow p t before s after fits e =
    let r : Apart loop (loops_of p t) (s, false) after = taken_apart loop (loops_of p t) before (s, false) after e in
    let free : is_in r.here p.left ≡ false = ap (λ (l : Loop). l.1) r.at in
    let passes : (list_any (has_var r.here) t.factors ≡ true) × (r.here < length p.var_sizes) =
    each_at (λ v. (list_any (has_var v) t.factors ≡ true) × (v < length p.var_sizes)) r.first r.here r.rest
    (subst (λ (vs : List ℕ). Each (λ v. (list_any (has_var v) t.factors ≡ true) × (v < length p.var_sizes)) vs) r.whole
    (filter-range (λ v. list_any (has_var v) t.factors) 0 (length p.var_sizes) (length p.var_sizes) (omega arith)))
    in
    let few : count_by (nat_lt r.here) p.left ≤ 2 = few_after r.here free (reduces_at p.left t.factors r.here last passes.0) in
    let rising : Rises (suc r.here) r.rest =
    rises_after 0 r.first r.here r.rest
    (subst (λ (vs : List ℕ). Rises 0 vs) r.whole (Rises-range (λ v. list_any (has_var v) t.factors) 0 (length p.var_sizes)))
    in
    let most = left_above p.left r.rest r.here rising in
    let same : length (kept_sizes after) ≡ length (filter (λ w. is_in w p.left) r.rest) =
    ap (λ (ls : List Loop). length (kept_sizes ls)) (sym r.others)
    ∙ ap (λ (xs : List ℕ). length xs) (kept-sizes-map (slice_index p.var_sizes) (λ v. is_in v p.left) r.rest)
    ∙ length-map (filter (λ w. is_in w p.left) r.rest) (slice_index p.var_sizes)
    in
    omega (arith, same, most, few)
  where
    loop : ℕ → Loop
    loop v = (slice_index p.var_sizes v, is_in v p.left)

    last : list_all (factor_reduces p.left) t.factors ≡ true
    last =
        sixth_of (nat_le 1 (length t.factors)) (nat_le (length t.factors) 8) (list_all (factor_fits p.tensors p.var_sizes) t.factors)
        (list_any is_access t.factors) (list_all (term_has t) p.left) (list_all (factor_reduces p.left) t.factors) fits

    few_after : (v : ℕ) → is_in v p.left ≡ false → reduces p.left v ≡ true → count_by (nat_lt v) p.left ≤ 2
    few_after v f h = leb-true (count_by (nat_lt v) p.left) 2 (sym (ap (λ b. b || nat_le (count_by (nat_lt v) p.left) 2) f) ∙ h)
