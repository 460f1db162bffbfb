-- Tests of lists and of variables, as the code makes them.
use Rattle.std.specs.Prelude.{◌≡◌, ℕ, Bool, not, ◌&&◌, List, [], ◌∷◌, eqb, refl}
use Rattle.std.specs.List.{filter}
use Rattle.std.specs.Cmp.Lexicographic.{pointwise}
use Rattle.std.proofs.Common.{sym, ◌∙◌, ap}
use Rattle.std.proofs.lemmas.Bool.{eq-eqb, eqb-true}
use Rattle.sam_model.specs.Trees.{ExprTree}
use Rattle.sam_model.specs.Lists.{is_in, same_list}
use Rattle.sam_model.specs.Scopes.{free_vars}
use Rattle.sam_model.proofs.Lists.{and-true, and-false, not-true}
use Rattle.sam_model.proofs.Orders.{is_in-filter}

pub pointwise-same : (xs ys : List ℕ) → pointwise eqb xs ys ≡ same_list xs ys
pointwise-same [] [] = refl
pointwise-same [] (y ∷ ys) = refl
pointwise-same (x ∷ xs) [] = refl
pointwise-same (x ∷ xs) (y ∷ ys) = ap (λ b. eqb x y && b) (pointwise-same xs ys)

-- ---- a variable and a sum over k

pub free-other : (v k : ℕ) (body : ExprTree) → (v ≡ k → ⊥) → (found : Bool) → found ≡ is_in v (free_vars body)
    → found ≡ is_in v (filter (λ w. not (eqb w k)) (free_vars body))
free-other v k body other found e =
    e ∙ sym (and-true (is_in v (free_vars body)))
    ∙ ap (λ b. is_in v (free_vars body) && not b) (sym (not-true (eqb v k) (λ h. absurd (other (eqb-true v k h)))))
    ∙ sym (is_in-filter (λ w. not (eqb w k)) v (free_vars body))

pub free-same : (v k : ℕ) (body : ExprTree) (from : ℕ) → v ≡ from → from ≡ k
    → not (eqb v from) ≡ is_in v (filter (λ w. not (eqb w k)) (free_vars body))
free-same v k body from e f =
    ap not (eq-eqb v from e)
    ∙ sym (and-false (is_in v (free_vars body)))
    ∙ ap (λ b. is_in v (free_vars body) && not b) (sym (eq-eqb v k (e ∙ f)))
    ∙ sym (is_in-filter (λ w. not (eqb w k)) v (free_vars body))
