-- What fits a left side is scoped, and the variables that a term is summed over are its own that aren't on the left.
use Rattle.std.specs.Prelude.{◌≡◌, ◌<◌, ◌⊎◌, ℕ, suc, Bool, true, false, not, ◌&&◌, ◌||◌, List, [], ◌∷◌, ◌++◌, eqb, refl}
use Rattle.std.proofs.Common.{arith, sym, ◌∙◌, ap, ap₂, subst, inl, inr}
use Rattle.std.proofs.lemmas.Bool.{and_parts, or_parts, or_cases, or_left, or_right, not-true, eqb-true, eq-eqb}
use Rattle.sam_model.specs.Trees.{ExprTree, Access, Literal, Times, Plus, Minus, Negate, Sum, TopTree}
use Rattle.sam_model.specs.Lists.{is_in, same_list}
use Rattle.sam_model.specs.Accepted.{distinct}
use Rattle.sam_model.proofs.Lists.{and-true, or-false}
use Rattle.sam_model.proofs.Orders.{is_in-filter, is_below, list_all-member, same_list-true, Rises, not-above}
use Rattle.sam_model.specs.Scopes.{bound_vars, used_vars, free_vars, are_apart, are_in_range, implied_of, top_fits}
use Rattle.expand.proofs.Expanded.{Apart, IsScoped, is_in-append}

-- ---- distinct lists

-- rising numbers are distinct
pub Rises-distinct : (a : ℕ) (ks : List ℕ) → Rises a ks → distinct ks ≡ true
Rises-distinct a [] r = refl
Rises-distinct a (k ∷ ks) r = ap₂ (λ x y. not x && y) (not-above k (suc k) ks (omega arith) r.1) (Rises-distinct (suc k) ks r.1)

pub distinct-append : (ks ls : List ℕ) → distinct ks ≡ true → distinct ls ≡ true → Apart ks ls → distinct (ks ++ ls) ≡ true
distinct-append [] ls dk dl apart = dl
distinct-append (k ∷ ks) ls dk dl apart =
    let e = and_parts (not (is_in k ks)) (distinct ks) dk in
    ap₂ (λ x y. not x && y)
    (is_in-append k ks ls ∙ ap₂ (λ x y. x || y) (not-true (is_in k ks) e.0) (apart k (or_left (eqb k k) (is_in k ks) (eq-eqb k k refl))))
    (distinct-append ks ls e.1 dl (λ j h. apart j (or_right (eqb j k) (is_in j ks) h)))

-- the two parts of a distinct list
record AreDistinct (ks ls : List ℕ) : Type 0 where
  first : distinct ks ≡ true
  second : distinct ls ≡ true
  apart : Apart ks ls

distinct_parts : (ks ls : List ℕ) → distinct (ks ++ ls) ≡ true → AreDistinct ks ls
distinct_parts [] ls h = record { first = refl; second = h; apart = λ k e. absurd (cc) }
distinct_parts (k ∷ ks) ls h =
    let e = and_parts (not (is_in k (ks ++ ls))) (distinct (ks ++ ls)) h in
    let rest = distinct_parts ks ls e.1 in
    let out = or_parts (is_in k ks) (is_in k ls) (sym (is_in-append k ks ls) ∙ not-true (is_in k (ks ++ ls)) e.0) in
    record {
      first = ap₂ (λ x y. not x && y) out.0 rest.first;
      second = rest.second;
      apart = λ j h. by_case j (or_cases (eqb j k) (is_in j ks) h) out.1 rest.apart;
    }
  where
    by_case : (j : ℕ) → (eqb j k ≡ true) ⊎ (is_in j ks ≡ true) → is_in k ls ≡ false → Apart ks ls → is_in j ls ≡ false
    by_case j (inl e) out rest = subst (λ (i : ℕ). is_in i ls ≡ false) (sym (eqb-true j k e)) out
    by_case j (inr e) out rest = rest j e

apart_back : (ks ls : List ℕ) → Apart ks ls → Apart ls ks
apart_back ks ls apart k h = by_case (is_in k ks) refl
  where
    by_case : (b : Bool) → is_in k ks ≡ b → b ≡ false
    by_case true e = sym h ∙ apart k e
    by_case false e = refl

-- ---- scopes

either_way : (a b c d : Bool) → ((a || c) ≡ true) ⊎ ((b || d) ≡ true) → ((a || b) || (c || d)) ≡ true
either_way true b c d h = refl
either_way false true c d h = refl
either_way false false true d h = refl
either_way false false false d (inl e) = absurd (cc)
either_way false false false d (inr e) = e

parts_both : (k : ℕ) (ua ub fa fb ba bb : List ℕ) → (is_in k ua ≡ true → (is_in k fa || is_in k ba) ≡ true)
    → (is_in k ub ≡ true → (is_in k fb || is_in k bb) ≡ true) → is_in k (ua ++ ub) ≡ true → (is_in k (fa ++ fb) || is_in k (ba ++ bb)) ≡ true
parts_both k ua ub fa fb ba bb left right h =
    ap₂ (λ x y. x || y) (is_in-append k fa fb) (is_in-append k ba bb)
    ∙ either_way (is_in k fa) (is_in k fb) (is_in k ba) (is_in k bb) (by_case (or_cases (is_in k ua) (is_in k ub) (sym (is_in-append k ua ub) ∙ h)))
  where
    by_case : (is_in k ua ≡ true) ⊎ (is_in k ub ≡ true) → ((is_in k fa || is_in k ba) ≡ true) ⊎ ((is_in k fb || is_in k bb) ≡ true)
    by_case (inl e) = inl (left e)
    by_case (inr e) = inr (right e)

outside_or_own : (f b e : Bool) → (f || b) ≡ true → ((f && not e) || (b || (e || false))) ≡ true
outside_or_own true b true h = or_right b true refl
outside_or_own true b false h = refl
outside_or_own false true e h = refl
outside_or_own false false e h = absurd (cc)

-- what is used is free or bound
used_parts : (e : ExprTree) (k : ℕ) → is_in k (used_vars e) ≡ true → (is_in k (free_vars e) || is_in k (bound_vars e)) ≡ true
used_parts (Access n vars) k h = or_left (is_in k vars) false h
used_parts (Literal n) k h = h
used_parts (Times a b) k h =
    parts_both k (used_vars a) (used_vars b) (free_vars a) (free_vars b) (bound_vars a) (bound_vars b) (used_parts a k) (used_parts b k) h
used_parts (Plus a b) k h =
    parts_both k (used_vars a) (used_vars b) (free_vars a) (free_vars b) (bound_vars a) (bound_vars b) (used_parts a k) (used_parts b k) h
used_parts (Minus a b) k h =
    parts_both k (used_vars a) (used_vars b) (free_vars a) (free_vars b) (bound_vars a) (bound_vars b) (used_parts a k) (used_parts b k) h
used_parts (Negate a) k h = used_parts a k h
used_parts (Sum j a) k h =
    ap₂ (λ x y. x || y) (is_in-filter (λ v. not (eqb v j)) k (free_vars a)) (is_in-append k (bound_vars a) (j ∷ []))
    ∙ outside_or_own (is_in k (free_vars a)) (is_in k (bound_vars a)) (eqb k j) (used_parts a k h)

-- an expression whose sums are over distinct variables, in range, which aren't free in it
pub record AreSums (count : ℕ) (bound free : List ℕ) : Type 0 where
  pub once : distinct bound ≡ true
  pub in_range : (k : ℕ) → is_in k bound ≡ true → k < count
  pub apart : Apart bound free

-- what isn't in both together is in neither
out_both : (k : ℕ) (vs ws : List ℕ) → is_in k (vs ++ ws) ≡ false → (is_in k vs ≡ false) × (is_in k ws ≡ false)
out_both k vs ws h = or_parts (is_in k vs) (is_in k ws) (sym (is_in-append k vs ws) ∙ h)

in_left : (k : ℕ) (vs ws : List ℕ) → is_in k vs ≡ true → is_in k (vs ++ ws) ≡ true
in_left k vs ws h = is_in-append k vs ws ∙ or_left (is_in k vs) (is_in k ws) h

in_right : (k : ℕ) (vs ws : List ℕ) → is_in k ws ≡ true → is_in k (vs ++ ws) ≡ true
in_right k vs ws h = is_in-append k vs ws ∙ or_right (is_in k vs) (is_in k ws) h

sums_left : (count : ℕ) (ba bb fa fb : List ℕ) → AreSums count (ba ++ bb) (fa ++ fb) → AreSums count ba fa
sums_left count ba bb fa fb h = record {
  once = (distinct_parts ba bb h.once).first;
  in_range = λ k e. h.in_range k (in_left k ba bb e);
  apart = λ k e. (out_both k fa fb (h.apart k (in_left k ba bb e))).0;
}

sums_right : (count : ℕ) (ba bb fa fb : List ℕ) → AreSums count (ba ++ bb) (fa ++ fb) → AreSums count bb fb
sums_right count ba bb fa fb h = record {
  once = (distinct_parts ba bb h.once).second;
  in_range = λ k e. h.in_range k (in_right k ba bb e);
  apart = λ k e. (out_both k fa fb (h.apart k (in_right k ba bb e))).1;
}

-- variables that are neither free nor bound aren't used
unused : (e : ExprTree) (ks : List ℕ) → Apart ks (free_vars e) → Apart ks (bound_vars e) → Apart ks (used_vars e)
unused e ks free bound k h = by_case (is_in k (used_vars e)) refl
  where
    by_case : (b : Bool) → is_in k (used_vars e) ≡ b → b ≡ false
    by_case true u = sym (used_parts e k u) ∙ ap₂ (λ x y. x || y) (free k h) (bound k h)
    by_case false u = refl

-- the two sides of a product, a sum or a difference
record AreSides (count : ℕ) (a b : ExprTree) : Type 0 where
  left : AreSums count (bound_vars a) (free_vars a)
  right : AreSums count (bound_vars b) (free_vars b)
  first : Apart (bound_vars a) (used_vars b)
  second : Apart (bound_vars b) (used_vars a)

sides : (count : ℕ) (a b : ExprTree) → AreSums count (bound_vars a ++ bound_vars b) (free_vars a ++ free_vars b) → AreSides count a b
sides count a b h =
    let parts = distinct_parts (bound_vars a) (bound_vars b) h.once in
    record {
      left = sums_left count (bound_vars a) (bound_vars b) (free_vars a) (free_vars b) h;
      right = sums_right count (bound_vars a) (bound_vars b) (free_vars a) (free_vars b) h;
      first = unused b (bound_vars a)
          (λ k e. (out_both k (free_vars a) (free_vars b) (h.apart k (in_left k (bound_vars a) (bound_vars b) e))).1) parts.apart;
      second = unused a (bound_vars b)
          (λ k e. (out_both k (free_vars a) (free_vars b) (h.apart k (in_right k (bound_vars a) (bound_vars b) e))).0)
          (apart_back (bound_vars a) (bound_vars b) parts.apart);
    }

pub scoped : (count : ℕ) (e : ExprTree) → AreSums count (bound_vars e) (free_vars e) → IsScoped count e
scoped count (Access n vars) h = tt
scoped count (Literal n) h = tt
scoped count (Times a b) h = let s = sides count a b h in (scoped count a s.left, scoped count b s.right, s.first, s.second)
scoped count (Plus a b) h = let s = sides count a b h in (scoped count a s.left, scoped count b s.right, s.first, s.second)
scoped count (Minus a b) h = let s = sides count a b h in (scoped count a s.left, scoped count b s.right, s.first, s.second)
scoped count (Negate a) h = scoped count a h
scoped count (Sum k a) h = (scoped count a inner, h.in_range k (in_right k (bound_vars a) (k ∷ []) (or_left (eqb k k) false (eq-eqb k k refl))))
  where
    parts : AreDistinct (bound_vars a) (k ∷ [])
    parts = distinct_parts (bound_vars a) (k ∷ []) h.once

    inner : AreSums count (bound_vars a) (free_vars a)
    inner = record {
      once = parts.first;
      in_range = λ j e. h.in_range j (in_left j (bound_vars a) (k ∷ []) e);
      apart = λ j e.
          sym (and-true (is_in j (free_vars a)))
          ∙ ap (λ b. is_in j (free_vars a) && not b) (sym (sym (or-false (eqb j k)) ∙ parts.apart j e))
          ∙ sym (is_in-filter (λ v. not (eqb v k)) j (free_vars a))
          ∙ h.apart j (in_left j (bound_vars a) (k ∷ []) e);
    }

-- ---- what fits a left side

pub record Fits (count : ℕ) (left : List ℕ) (t : TopTree) : Type 0 where
  pub used : (k : ℕ) → is_in k (used_vars t.body) ≡ true → k < count
  pub sums : AreSums count (bound_vars t.body) (free_vars t.body)
  pub off_left : Apart (bound_vars t.body) left
  pub implied : t.implied ≡ implied_of count left t.body

apart_test : (ks vs : List ℕ) → are_apart ks vs ≡ true → Apart ks vs
apart_test ks vs h k e = not-true (is_in k vs) (list_all-member (λ v. not (is_in v vs)) ks k h e)

pub fits : (count : ℕ) (left : List ℕ) (t : TopTree) → top_fits count left t ≡ true → Fits count left t
fits count left t h =
    let bound = bound_vars t.body in
    let free = free_vars t.body in
    let implied = same_list t.implied (implied_of count left t.body) in
    let a = and_parts (are_in_range count (used_vars t.body)) (are_in_range count bound && (distinct bound && (are_apart bound left && (are_apart bound free && implied)))) h in
    let b = and_parts (are_in_range count bound) (distinct bound && (are_apart bound left && (are_apart bound free && implied))) a.1 in
    let c = and_parts (distinct bound) (are_apart bound left && (are_apart bound free && implied)) b.1 in
    let d = and_parts (are_apart bound left) (are_apart bound free && implied) c.1 in
    let e = and_parts (are_apart bound free) implied d.1 in
    record {
      used = λ k m. is_below count k (used_vars t.body) a.0 m;
      sums = record { once = c.0; in_range = λ k m. is_below count k bound b.0 m; apart = apart_test bound free e.0 };
      off_left = apart_test bound left d.0;
      implied = same_list-true t.implied (implied_of count left t.body) e.1;
    }
