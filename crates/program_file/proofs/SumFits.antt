-- The checks of the sums: where they find no fault the sums of the top-level terms are right, and where these are right they find
-- none.
use Rattle.std.proofs.Common.{◌≡◌, ℕ, ◌<◌, ◌≤◌, Bool, true, false, cond, not, List, [], ◌∷◌, ◌++◌, length, Option, Some, None, nat_lt}
use Rattle.std.proofs.Common.{refl, sym, ap, ap₂, subst, ◌∙◌, arith}
use Rattle.std.specs.List.{flat_map, list_all}
use Rattle.std.proofs.lemmas.Bool.{and_parts, and_from, cond-true, ltb-true, lt-ltb}
use Rattle.std.proofs.lemmas.List.{map-append}
use Rattle.std.proofs.lemmas.List.Folds.{list_all-append}
use mathlib.Core.List.{map}
use Rattle.sam_base.specs.declared.faults.ProgramKind.{ProgramKind}
use Rattle.sam_base.specs.declared.faults.ProgramKind.TheVariants.{BoundVariable}
use Rattle.sam_model.specs.declared.tensors.Tensor.{Tensor}
use Rattle.sam_model.specs.Trees.{ExprTree}
use Rattle.sam_model.specs.Accepted.{is_named, distinct}
use Rattle.sam_model.specs.Scopes.{bound_vars, free_vars, used_vars, are_apart, are_in_range, top_fits}
use Rattle.notation.specs.Trees.{TextTree, Access, Literal, Times, Plus, Minus, Negate, Sum, TopTextTree}
use Rattle.program_file.specs.declared.accesses.Variable.{Variable}
use Rattle.program_file.specs.Accesses.{is_known}
use Rattle.program_file.specs.Numbers.{place_of, name_at}
use Rattle.program_file.specs.Statements.{tree_sums, var_of, body_of, top_of}
use Rattle.program_file.specs.Checks.{first_of, unused, binds_wrong, sum_vars, wrong_among, tops_bind_wrong}
use Rattle.program_file.proofs.BoundLemmas.{place-item}
use Rattle.program_file.proofs.StatementLemmas.{has_right_sums}
use Rattle.program_file.proofs.SumLemmas.{SumsApart, sums-pass, apart-right}

-- ---- the variables of the sums by their numbers

module _ (tensors : List Tensor) (names : List (List ℕ)) where
  two-sums : (ks ls : List ℕ) (vs ws : List (List ℕ)) → ks ≡ map (var_of names) vs → ls ≡ map (var_of names) ws
      → ks ++ ls ≡ map (var_of names) (vs ++ ws)
  two-sums ks ls vs ws p q = ap₂ (λ u v. u ++ v) p q ∙ sym (map-append (var_of names) vs ws)

  pub body-sums : (e : TextTree) → sum_vars (body_of tensors names e) ≡ map (var_of names) (tree_sums e)
  body-sums (Access a) = refl
  body-sums (Literal n) = refl
  body-sums (Times a b) = two-sums (sum_vars (body_of tensors names a)) (sum_vars (body_of tensors names b)) (tree_sums a) (tree_sums b)
      (body-sums a) (body-sums b)
  body-sums (Plus a b) = two-sums (sum_vars (body_of tensors names a)) (sum_vars (body_of tensors names b)) (tree_sums a) (tree_sums b)
      (body-sums a) (body-sums b)
  body-sums (Minus a b) = two-sums (sum_vars (body_of tensors names a)) (sum_vars (body_of tensors names b)) (tree_sums a) (tree_sums b)
      (body-sums a) (body-sums b)
  body-sums (Negate a) = body-sums a
  body-sums (Sum v place a) = ap (λ ks. var_of names v ∷ ks) (body-sums a)

-- ---- what the checks say

some-if : {A : Type 0} (b : Bool) (o : Option A) (x : A) → cond b o (Some x) ≡ None → (b ≡ true) × (o ≡ None)
some-if true o x e = (refl, e)
some-if false o x e = absurd cc

fault-if : {A : Type 0} (b : Bool) (x : A) (o : Option A) → cond b (Some x) o ≡ None → (b ≡ false) × (o ≡ None)
fault-if true x o e = absurd cc
fault-if false x o e = (refl, e)

both-none : (a b : Option ProgramKind) → first_of a b ≡ None → (a ≡ None) × (b ≡ None)
both-none None b e = (refl, e)
both-none (Some kind) b e = absurd cc

known-where-used : (vars : List Variable) (vs : List (List ℕ)) → unused vars vs ≡ None → list_all (λ v. is_known v vars) vs ≡ true
known-where-used vars [] e = refl
known-where-used vars (v ∷ vs) e = let p = some-if (is_known v vars) (unused vars vs) v e in and_from _ _ p.0 (known-where-used vars vs p.1)

used-where-known : (vars : List Variable) (vs : List (List ℕ)) → list_all (λ v. is_known v vars) vs ≡ true → unused vars vs ≡ None
used-where-known vars [] e = refl
used-where-known vars (v ∷ vs) e =
    let p = and_parts (is_known v vars) (list_all (λ v. is_known v vars) vs) e in
    cond-true (is_known v vars) (unused vars vs) (Some v) p.0 ∙ used-where-known vars vs p.1

right-among : (names : List (List ℕ)) (left : List ℕ) (e : ExprTree) (ks : List ℕ) → wrong_among names left e ks ≡ None
    → list_all (λ k. not (binds_wrong left e k)) ks ≡ true
right-among names left e [] h = refl
right-among names left e (k ∷ ks) h =
    let p = fault-if (binds_wrong left e k) (BoundVariable (name_at names k)) (wrong_among names left e ks) h in
    and_from _ _ (ap not p.0) (right-among names left e ks p.1)

none-among : (names : List (List ℕ)) (left : List ℕ) (e : ExprTree) (ks : List ℕ) → list_all (λ k. not (binds_wrong left e k)) ks ≡ true
    → wrong_among names left e ks ≡ None
none-among names left e [] h = refl
none-among names left e (k ∷ ks) h =
    let p = and_parts (not (binds_wrong left e k)) (list_all (λ k. not (binds_wrong left e k)) ks) h in
    one (binds_wrong left e k) p.0 ∙ none-among names left e ks p.1
  where
    one : (b : Bool) → not b ≡ true → cond b (Some (BoundVariable (name_at names k))) (wrong_among names left e ks)
        ≡ wrong_among names left e ks
    one true g = absurd cc
    one false g = refl

-- ---- no fault, so the sums are right

module _ (tensors : List Tensor) (vars : List Variable) (loops : List (List ℕ)) (known : (n : List ℕ) → is_known n vars ≡ true
    → is_named n loops ≡ true) where
  vars-below : (vs : List (List ℕ)) → list_all (λ v. is_known v vars) vs ≡ true → are_in_range (length loops) (map (var_of loops) vs) ≡ true
  vars-below [] e = refl
  vars-below (v ∷ vs) e =
      let p = and_parts (is_known v vars) (list_all (λ v. is_known v vars) vs) e in
      let low = (place-item (λ n. 0) v loops (known v p.0)).0 in
      and_from _ _ (lt-ltb (var_of loops v) (length loops) (omega (arith, low))) (vars-below vs p.1)

  module _ (left : List ℕ) where
    pub sums-right : (ts : List TopTextTree) → list_all (λ v. is_known v vars) (flat_map (λ t. tree_sums t.body) ts) ≡ true
        → tops_bind_wrong loops left (map (top_of tensors loops left) ts) ≡ None → list_all (has_right_sums tensors loops left) ts ≡ true
    sums-right [] e h = refl
    sums-right (t ∷ ts) e h =
        let body = body_of tensors loops t.body in
        let p = and_parts (list_all (λ v. is_known v vars) (tree_sums t.body))
        (list_all (λ v. is_known v vars) (flat_map (λ t. tree_sums t.body) ts))
        (sym (list_all-append (λ v. is_known v vars) (tree_sums t.body) (flat_map (λ t. tree_sums t.body) ts)) ∙ e) in
        let q = both-none (wrong_among loops left body (sum_vars body))
        (tops_bind_wrong loops left (map (top_of tensors loops left) ts)) h in
        let below = subst (λ ks. are_in_range (length loops) ks ≡ true) (sym (body-sums tensors loops t.body))
        (vars-below (tree_sums t.body) p.0) in
        and_from _ _ (and_from _ _ below (right-among loops left body (sum_vars body) q.0)) (sums-right ts p.1 q.1)

    pub no-fault-right : (ts : List TopTextTree) → unused vars (flat_map (λ t. tree_sums t.body) ts) ≡ None
        → tops_bind_wrong loops left (map (top_of tensors loops left) ts) ≡ None
        → list_all (has_right_sums tensors loops left) ts ≡ true
    no-fault-right ts e h = sums-right ts (known-where-used vars (flat_map (λ t. tree_sums t.body) ts) e) h

-- ---- the sums are right, so there is no fault

fits-apart : (count : ℕ) (left : List ℕ) (tensors : List Tensor) (loops : List (List ℕ)) (t : TopTextTree)
    → top_fits count left (top_of tensors loops left t) ≡ true
    → SumsApart count left (body_of tensors loops t.body)
fits-apart count left tensors loops t h =
    let e = body_of tensors loops t.body in
    let a = and_parts (are_in_range count (used_vars e)) _ h in
    let b = and_parts (are_in_range count (bound_vars e)) _ a.1 in
    let c = and_parts (distinct (bound_vars e)) _ b.1 in
    let d = and_parts (are_apart (bound_vars e) left) _ c.1 in
    record { in_range = b.0; apart = c.0; off_left = d.0; inside = (and_parts (are_apart (bound_vars e) (free_vars e)) _ d.1).0 }

module _ (tensors : List Tensor) (vars : List Variable) (loops : List (List ℕ)) (few : length loops ≤ 8)
    (named : (n : List ℕ) → place_of loops n < length loops → is_known n vars ≡ true) (left : List ℕ) where
  vars-known : (vs : List (List ℕ)) → are_in_range (length loops) (map (var_of loops) vs) ≡ true → list_all (λ v. is_known v vars) vs ≡ true
  vars-known [] e = refl
  vars-known (v ∷ vs) e =
      let p = and_parts (nat_lt (var_of loops v) (length loops)) (are_in_range (length loops) (map (var_of loops) vs)) e in
      let low : var_of loops v < length loops = ltb-true (var_of loops v) (length loops) p.0 in
      and_from _ _ (named v (omega (arith, low, few))) (vars-known vs p.1)

  pub all-known : (ts : List TopTextTree) → list_all (top_fits (length loops) left) (map (top_of tensors loops left) ts) ≡ true
      → list_all (λ v. is_known v vars) (flat_map (λ t. tree_sums t.body) ts) ≡ true
  all-known [] h = refl
  all-known (t ∷ ts) h =
      let body = body_of tensors loops t.body in
      let p = and_parts (top_fits (length loops) left (top_of tensors loops left t))
      (list_all (top_fits (length loops) left) (map (top_of tensors loops left) ts)) h in
      let s = fits-apart (length loops) left tensors loops t p.0 in
      let below : are_in_range (length loops) (map (var_of loops) (tree_sums t.body)) ≡ true =
      subst (λ ks. are_in_range (length loops) ks ≡ true) (body-sums tensors loops t.body)
      (sums-pass (λ v. nat_lt v (length loops)) body ∙ s.in_range) in
      list_all-append (λ v. is_known v vars) (tree_sums t.body) (flat_map (λ t. tree_sums t.body) ts)
      ∙ and_from _ _ (vars-known (tree_sums t.body) below) (all-known ts p.1)

  pub all-right : (ts : List TopTextTree) → list_all (top_fits (length loops) left) (map (top_of tensors loops left) ts) ≡ true
      → tops_bind_wrong loops left (map (top_of tensors loops left) ts) ≡ None
  all-right [] h = refl
  all-right (t ∷ ts) h =
      let body = body_of tensors loops t.body in
      let p = and_parts (top_fits (length loops) left (top_of tensors loops left t))
      (list_all (top_fits (length loops) left) (map (top_of tensors loops left) ts)) h in
      let none = none-among loops left body (sum_vars body)
      (apart-right (length loops) left body (fits-apart (length loops) left tensors loops t p.0)) in
      ap (λ o. first_of o (tops_bind_wrong loops left (map (top_of tensors loops left) ts))) none ∙ all-right ts p.1

  pub right-unused : (ts : List TopTextTree) → list_all (top_fits (length loops) left) (map (top_of tensors loops left) ts) ≡ true
      → unused vars (flat_map (λ t. tree_sums t.body) ts) ≡ None
  right-unused ts h = used-where-known vars (flat_map (λ t. tree_sums t.body) ts) (all-known ts h)
