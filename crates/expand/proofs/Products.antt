-- A statement whose top-level terms are products expands to these products, so its terms are what they were without expressions.
use Rattle.std.specs.Prelude.{◌≡◌, ℕ, Bool, true, false, not, cond, ◌&&◌, ◌||◌, List, [], ◌∷◌, ◌++◌, length, eqb, refl}
use Rattle.std.specs.List.{flat_map, list_all}
use mathlib.Core.List.{map}
use Rattle.std.proofs.Common.{sym, ◌∙◌, ap, ap₂}
use Rattle.std.proofs.lemmas.Bool.{and_parts, or_left, or_right, eq-eqb}
use Rattle.sam_base.specs.Each.{Each}
use Rattle.sam_model.specs.declared.program.Term.{Term}
use Rattle.sam_model.specs.Trees.{ExprTree, Access, Literal, Times, Plus, Minus, Negate, Sum, TopTree}
use Rattle.sam_model.specs.Lists.{below, is_in}
use Rattle.sam_model.specs.Accepted.{term_has}
use Rattle.sam_model.specs.Expressions.{joined_term, expanded, summed_over, with_sign, expanded_tops}
use Rattle.sam_model.proofs.Lists.{or-false}
use Rattle.sam_model.proofs.Orders.{is_in-filter}
use Rattle.expand.specs.Plain.{is_product, factors_of, term_of}
use Rattle.sam_model.specs.Scopes.{bound_vars, used_vars, implied_of}
use Rattle.expand.specs.Counting.{top_terms}
use Rattle.expand.proofs.Counted.{factors_have}
use Rattle.expand.proofs.Expanded.{have-append, is_in-append}

pub product-expanded : (sizes : List ℕ) (e : ExprTree) → is_product e ≡ true → expanded sizes e ≡ record { minus = false; factors = factors_of e } ∷ []
product-expanded sizes (Access n vars) h = refl
product-expanded sizes (Literal n) h = refl
product-expanded sizes (Times a b) h =
    let e = and_parts (is_product a) (is_product b) h in
    ap₂ (λ (ts us : List Term). flat_map (λ t. map (joined_term t) us) ts) (product-expanded sizes a e.0) (product-expanded sizes b e.1)
product-expanded sizes (Plus a b) h = absurd (cc)
product-expanded sizes (Minus a b) h = absurd (cc)
product-expanded sizes (Negate a) h = absurd (cc)
product-expanded sizes (Sum k a) h = absurd (cc)

product_has : (e : ExprTree) (k : ℕ) → is_product e ≡ true → factors_have (factors_of e) k ≡ is_in k (used_vars e)
product_has (Access n vars) k h = or-false (is_in k vars)
product_has (Literal n) k h = refl
product_has (Times a b) k h =
    let e = and_parts (is_product a) (is_product b) h in
    have-append (factors_of a) (factors_of b) k ∙ ap₂ (λ x y. x || y) (product_has a k e.0) (product_has b k e.1)
    ∙ sym (is_in-append k (used_vars a) (used_vars b))
product_has (Plus a b) k h = absurd (cc)
product_has (Minus a b) k h = absurd (cc)
product_has (Negate a) k h = absurd (cc)
product_has (Sum j a) k h = absurd (cc)

-- sums over variables that a term has change nothing
summed_same : (sizes ks : List ℕ) (t : Term) → ((k : ℕ) → is_in k ks ≡ true → term_has t k ≡ true) → summed_over sizes ks (t ∷ []) ≡ t ∷ []
summed_same sizes [] t h = refl
summed_same sizes (k ∷ ks) t h =
    ap (λ (x : Term). summed_over sizes ks (x ∷ [])) (same (term_has t k) _ (h k (or_left (eqb k k) (is_in k ks) (eq-eqb k k refl))))
    ∙ summed_same sizes ks t (λ j e. h j (or_right (eqb j k) (is_in j ks) e))
  where
    same : (b : Bool) (more : Term) → b ≡ true → cond b t more ≡ t
    same true more e = refl
    same false more e = absurd (cc)

one_sign : (sizes : List ℕ) (minus : Bool) (e : ExprTree)
    → with_sign sizes minus (record { minus = false; factors = factors_of e } ∷ []) ≡ record { minus = minus; factors = factors_of e } ∷ []
one_sign sizes true e = refl
one_sign sizes false e = refl

pub product-term : (sizes left : List ℕ) (t : TopTree) → is_product t.body ≡ true → t.implied ≡ implied_of (length sizes) left t.body
    → top_terms sizes t ≡ term_of t ∷ []
product-term sizes left t h implied =
    ap (λ (ts : List Term). with_sign sizes t.minus (summed_over sizes t.implied ts)) (product-expanded sizes t.body h)
    ∙ ap (with_sign sizes t.minus) (summed_same sizes t.implied plain has)
    ∙ one_sign sizes t.minus t.body
  where
    plain : Term
    plain = record { minus = false; factors = factors_of t.body }

    has : (k : ℕ) → is_in k t.implied ≡ true → term_has plain k ≡ true
    has k e =
        let others = not (is_in k left) && not (is_in k (bound_vars t.body)) in
        let listed =
        sym (ap (is_in k) implied
        ∙ is_in-filter (λ v. is_in v (used_vars t.body) && (not (is_in v left) && not (is_in v (bound_vars t.body)))) k (below (length sizes)))
        ∙ e in
        product_has t.body k h ∙ (and_parts (is_in k (used_vars t.body)) others (and_parts (is_in k (below (length sizes))) (is_in k (used_vars t.body) && others) listed).1).0

-- such a statement keeps its terms
pub products-kept : (sizes left : List ℕ) (tops : List TopTree) → list_all (λ t. is_product t.body) tops ≡ true
    → Each (λ t. t.implied ≡ implied_of (length sizes) left t.body) tops → expanded_tops sizes tops ≡ map term_of tops
products-kept sizes left [] h e = refl
products-kept sizes left (t ∷ tops) h e =
    let p = and_parts (is_product t.body) (list_all (λ t. is_product t.body) tops) h in
    ap₂ (λ (xs ys : List Term). xs ++ ys) (product-term sizes left t p.0 e.0) (products-kept sizes left tops p.1 e.1)
