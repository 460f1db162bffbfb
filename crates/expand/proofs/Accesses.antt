-- Expansion keeps accesses: those of the terms of an expression are those that the expression has, and its other factors are
-- literals.
use Rattle.std.specs.Prelude.{◌≡◌, ℕ, ◌<◌, Bool, true, false, not, cond, ◌&&◌, ◌||◌, List, [], ◌∷◌, ◌++◌, length, slice_index, refl}
use Rattle.std.specs.List.{flat_map, list_all, list_any}
use mathlib.Core.List.{map}
use Rattle.std.proofs.Common.{sym, ◌∙◌, ap, ap₂, arith}
use Rattle.std.proofs.lemmas.List.Folds.{list_all-append}
use Rattle.sam_model.specs.declared.program.Factor.{Factor}
use Rattle.sam_model.specs.declared.program.Factor.TheVariants as factor
use Rattle.sam_model.specs.declared.program.Term.{Term}
use Rattle.sam_model.specs.Trees.{ExprTree, Access, Literal, Times, Plus, Minus, Negate, Sum, TopTree}
use Rattle.sam_model.specs.Denote.{has_var, vars_of}
use Rattle.sam_model.specs.Accepted.{term_has, terms_have}
use Rattle.sam_model.specs.Expressions.{turned_term, joined_term, summed_term, expanded, summed_over, with_sign, expanded_tops}
use Rattle.sam_model.specs.Scopes.{used_vars}
use Rattle.sam_model.proofs.Lists.{and-true}
use Rattle.expand.proofs.Lengths.{some-expanded, length-expanded, length-expanded_tops}

-- the accesses of an expression, as factors, in the order of its text
abbrev pub accesses_of : ExprTree → List Factor
accesses_of (Access n vars) = factor.Access n vars ∷ []
accesses_of (Literal n) = []
accesses_of (Times a b) = accesses_of a ++ accesses_of b
accesses_of (Plus a b) = accesses_of a ++ accesses_of b
accesses_of (Minus a b) = accesses_of a ++ accesses_of b
accesses_of (Negate a) = accesses_of a
accesses_of (Sum k a) = accesses_of a

and-swap : (x y u : Bool) → ((x && u) && (y && u)) ≡ ((x && y) && u)
and-swap true true true = refl
and-swap true true false = refl
and-swap true false true = refl
and-swap true false false = refl
and-swap false y u = refl

-- ---- a test of all factors that literals pass

module _ (p : Factor → Bool) (literals : (n : ℕ) → p (factor.Literal n) ≡ true) where
  abbrev all_pass : List Term → Bool
  all_pass ts = list_all (λ t. list_all p t.factors) ts

  pass-turned : (ts : List Term) → all_pass (map turned_term ts) ≡ all_pass ts
  pass-turned [] = refl
  pass-turned (t ∷ ts) = ap (λ b. list_all p t.factors && b) (pass-turned ts)

  pass-row : (t : Term) (us : List Term) → 0 < length us → all_pass (map (joined_term t) us) ≡ (list_all p t.factors && all_pass us)
  pass-row t [] h = absurd (omega (arith, h))
  pass-row t (u ∷ []) h = ap (λ b. b && true) (list_all-append p t.factors u.factors) ∙ grouped (list_all p t.factors) (list_all p u.factors)
    where
      grouped : (x y : Bool) → ((x && y) && true) ≡ (x && (y && true))
      grouped true y = refl
      grouped false y = refl
  pass-row t (u ∷ v ∷ us) h =
      ap₂ (λ a b. a && b) (list_all-append p t.factors u.factors) (pass-row t (v ∷ us) (omega arith))
      ∙ shared (list_all p t.factors) (list_all p u.factors) (all_pass (v ∷ us))
    where
      shared : (x y z : Bool) → ((x && y) && (x && z)) ≡ (x && (y && z))
      shared true y z = refl
      shared false y z = refl

  pass-products : (ts us : List Term) → 0 < length ts → 0 < length us
      → all_pass (flat_map (λ t. map (joined_term t) us) ts) ≡ (all_pass ts && all_pass us)
  pass-products [] us h k = absurd (omega (arith, h))
  pass-products (t ∷ []) us h k =
      list_all-append (λ u. list_all p u.factors) (map (joined_term t) us) []
      ∙ and-true (all_pass (map (joined_term t) us)) ∙ pass-row t us k
      ∙ ap (λ b. b && all_pass us) (sym (and-true (list_all p t.factors)))
  pass-products (t ∷ v ∷ ts) us h k =
      list_all-append (λ u. list_all p u.factors) (map (joined_term t) us) (flat_map (λ t. map (joined_term t) us) (v ∷ ts))
      ∙ ap₂ (λ a b. a && b) (pass-row t us k) (pass-products (v ∷ ts) us (omega arith) k)
      ∙ and-swap (list_all p t.factors) (all_pass (v ∷ ts)) (all_pass us)

  pass-one-more : (t : Term) (n : ℕ) (b : Bool) → list_all p (cond b t (record t { factors = t.factors ++ factor.Literal n ∷ [] })).factors ≡ list_all p t.factors
  pass-one-more t n true = refl
  pass-one-more t n false =
      list_all-append p t.factors (factor.Literal n ∷ []) ∙ ap (λ b. list_all p t.factors && (b && true)) (literals n) ∙ and-true (list_all p t.factors)

  pass-summed : (sizes : List ℕ) (k : ℕ) (ts : List Term) → all_pass (map (summed_term sizes k) ts) ≡ all_pass ts
  pass-summed sizes k [] = refl
  pass-summed sizes k (t ∷ ts) = ap₂ (λ a b. a && b) (pass-one-more t (slice_index sizes k) (term_has t k)) (pass-summed sizes k ts)

  pass-expanded : (sizes : List ℕ) (e : ExprTree) → all_pass (expanded sizes e) ≡ list_all p (accesses_of e)
  pass-expanded sizes (Access n vars) = and-true (p (factor.Access n vars) && true)
  pass-expanded sizes (Literal n) = ap (λ b. (b && true) && true) (literals n)
  pass-expanded sizes (Times a b) =
      pass-products (expanded sizes a) (expanded sizes b) (some-expanded sizes a) (some-expanded sizes b)
      ∙ ap₂ (λ x y. x && y) (pass-expanded sizes a) (pass-expanded sizes b)
      ∙ sym (list_all-append p (accesses_of a) (accesses_of b))
  pass-expanded sizes (Plus a b) =
      list_all-append (λ t. list_all p t.factors) (expanded sizes a) (expanded sizes b)
      ∙ ap₂ (λ x y. x && y) (pass-expanded sizes a) (pass-expanded sizes b)
      ∙ sym (list_all-append p (accesses_of a) (accesses_of b))
  pass-expanded sizes (Minus a b) =
      list_all-append (λ t. list_all p t.factors) (expanded sizes a) (map turned_term (expanded sizes b))
      ∙ ap₂ (λ x y. x && y) (pass-expanded sizes a) (pass-turned (expanded sizes b) ∙ pass-expanded sizes b)
      ∙ sym (list_all-append p (accesses_of a) (accesses_of b))
  pass-expanded sizes (Negate a) = pass-turned (expanded sizes a) ∙ pass-expanded sizes a
  pass-expanded sizes (Sum k a) = pass-summed sizes k (expanded sizes a) ∙ pass-expanded sizes a

  pass-over : (sizes ks : List ℕ) (ts : List Term) → all_pass (summed_over sizes ks ts) ≡ all_pass ts
  pass-over sizes [] ts = refl
  pass-over sizes (k ∷ ks) ts = pass-over sizes ks (map (summed_term sizes k) ts) ∙ pass-summed sizes k ts

  pass-sign : (sizes : List ℕ) (minus : Bool) (ts : List Term) → all_pass (with_sign sizes minus ts) ≡ all_pass ts
  pass-sign sizes true ts = pass-turned ts
  pass-sign sizes false ts = refl

  -- the factors of all terms pass where the accesses of all top-level terms do
  pub pass-tops : (sizes : List ℕ) (tops : List TopTree) → all_pass (expanded_tops sizes tops) ≡ list_all (λ t. list_all p (accesses_of t.body)) tops
  pass-tops sizes [] = refl
  pass-tops sizes (t ∷ tops) =
      list_all-append (λ u. list_all p u.factors) (with_sign sizes t.minus (summed_over sizes t.implied (expanded sizes t.body))) (expanded_tops sizes tops)
      ∙ ap₂ (λ x y. x && y)
      (pass-sign sizes t.minus (summed_over sizes t.implied (expanded sizes t.body)) ∙ pass-over sizes t.implied (expanded sizes t.body) ∙ pass-expanded sizes t.body)
      (pass-tops sizes tops)

-- ---- which variables terms have

none-any : {A : Type 0} (q : A → Bool) (xs : List A) → list_all (λ x. not (q x)) xs ≡ not (list_any q xs)
none-any q [] = refl
none-any q (x ∷ xs) = ap (λ b. not (q x) && b) (none-any q xs) ∙ either (q x)
  where
    either : (b : Bool) → (not b && not (list_any q xs)) ≡ not (b || list_any q xs)
    either true = refl
    either false = refl

same-not : (a b : Bool) → not a ≡ not b → a ≡ b
same-not true true h = refl
same-not true false h = absurd cc
same-not false true h = absurd cc
same-not false false h = refl

all-same : {A : Type 0} (q r : A → Bool) → ((x : A) → q x ≡ r x) → (xs : List A) → list_all q xs ≡ list_all r xs
all-same q r h [] = refl
all-same q r h (x ∷ xs) = ap₂ (λ a b. a && b) (h x) (all-same q r h xs)

-- the terms have a variable where some access of a top-level term has it
pub tops-have : (sizes : List ℕ) (tops : List TopTree) (k : ℕ) → terms_have (expanded_tops sizes tops) k ≡ list_any (λ t. list_any (has_var k) (accesses_of t.body)) tops
tops-have sizes tops k =
    same-not (terms_have (expanded_tops sizes tops) k) (list_any (λ t. list_any (has_var k) (accesses_of t.body)) tops)
    (sym (none-any (λ t. term_has t k) (expanded_tops sizes tops))
    ∙ all-same (λ t. not (term_has t k)) (λ t. list_all (λ f. not (has_var k f)) t.factors) (λ t. sym (none-any (has_var k) t.factors)) (expanded_tops sizes tops)
    ∙ pass-tops (λ f. not (has_var k f)) (λ n. refl) sizes tops
    ∙ all-same (λ t. list_all (λ f. not (has_var k f)) (accesses_of t.body)) (λ t. not (list_any (has_var k) (accesses_of t.body))) (λ t. none-any (has_var k) (accesses_of t.body)) tops
    ∙ none-any (λ t. list_any (has_var k) (accesses_of t.body)) tops)

both : (q : ℕ → Bool) (a b : ExprTree) → list_all q (used_vars a) ≡ list_all (λ f. list_all q (vars_of f)) (accesses_of a)
    → list_all q (used_vars b) ≡ list_all (λ f. list_all q (vars_of f)) (accesses_of b)
    → list_all q (used_vars a ++ used_vars b) ≡ list_all (λ f. list_all q (vars_of f)) (accesses_of a ++ accesses_of b)
both q a b h k =
    list_all-append q (used_vars a) (used_vars b) ∙ ap₂ (λ x y. x && y) h k
    ∙ sym (list_all-append (λ f. list_all q (vars_of f)) (accesses_of a) (accesses_of b))

-- the variables of an expression are those of its accesses
pub used-pass : (q : ℕ → Bool) (e : ExprTree) → list_all q (used_vars e) ≡ list_all (λ f. list_all q (vars_of f)) (accesses_of e)
used-pass q (Access n vars) = sym (and-true (list_all q vars))
used-pass q (Literal n) = refl
used-pass q (Times a b) = both q a b (used-pass q a) (used-pass q b)
used-pass q (Plus a b) = both q a b (used-pass q a) (used-pass q b)
used-pass q (Minus a b) = both q a b (used-pass q a) (used-pass q b)
used-pass q (Negate a) = used-pass q a
used-pass q (Sum k a) = used-pass q a

-- a statement with a top-level term has a term
pub some-tops : (sizes : List ℕ) (tops : List TopTree) → 0 < length tops → 0 < length (expanded_tops sizes tops)
some-tops sizes [] h = absurd (omega (arith, h))
some-tops sizes (t ∷ tops) h =
    let e = some-expanded sizes t.body in
    let f = length-expanded sizes t.body in
    let g = length-expanded_tops sizes (t ∷ tops) in
    omega (arith, e, f, g)
