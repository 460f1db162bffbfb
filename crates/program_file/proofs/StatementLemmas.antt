-- The right side of a statement: its terms have the accesses of its text, and its top-level terms fit where these are in range and
-- its sums are right.
use Rattle.std.proofs.Common.{◌≡◌, ℕ, ◌<◌, List, [], ◌∷◌, ◌++◌, length, Bool, true, not, ◌&&◌, ◌||◌, refl, sym, ap, ap₂, ◌∙◌, arith, nat_lt}
use Rattle.std.specs.List.{flat_map, list_all, list_any}
use Rattle.std.proofs.lemmas.Bool.{and_parts, and_from}
use Rattle.std.proofs.lemmas.List.{length-map, map-append}
use Rattle.std.proofs.lemmas.List.Folds.{list_all-append, list_all-map, list_any-append}
use mathlib.Core.List.{map}
use Rattle.sam_model.specs.declared.tensors.Tensor.{Tensor}
use Rattle.sam_model.specs.declared.program.Factor.{Factor}
use Rattle.sam_model.specs.declared.program.Factor.TheVariants as factor
use Rattle.sam_model.specs.Denote.{vars_of, has_var}
use Rattle.sam_model.specs.Accepted.{terms_have}
use Rattle.sam_model.specs.Scopes.{are_in_range, implied_of, top_fits}
use Rattle.sam_model.proofs.Lists.{list_any-map}
use Rattle.sam_model.proofs.Orders.{same_list-self}
use Rattle.expand.proofs.Accesses.{accesses_of, pass-tops, tops-have, used-pass, some-tops}
use Rattle.notation.specs.declared.statement.AccessText.{AccessText}
use Rattle.notation.specs.Trees.{TextTree, Access, Literal, Times, Plus, Minus, Negate, Sum, TopTextTree}
use Rattle.program_file.specs.declared.accesses.Variable.{Variable}
use Rattle.program_file.specs.declared.files.File.{File}
use Rattle.program_file.specs.Numbers.{places, number_of}
use Rattle.program_file.specs.Checks.{sum_vars, binds_wrong}
use Rattle.program_file.specs.Statements.{tree_accesses, top_accesses, right_accesses, body_of, top_of}
use Rattle.program_file.specs.Programs.{file_tops, left_of, sizes_of, terms_of}
use Rattle.program_file.proofs.SumLemmas.{sums-apart}

-- ---- the accesses of the text are those of the top-level terms

module _ (tensors : List Tensor) (names : List (List ℕ)) where
  abbrev pub numbered_access : AccessText → Factor
  numbered_access a = factor.Access (number_of tensors a.name) (places names a.vars)

  joined : (fs gs : List Factor) (xs ys : List AccessText) → fs ≡ map numbered_access xs → gs ≡ map numbered_access ys
      → fs ++ gs ≡ map numbered_access (xs ++ ys)
  joined fs gs xs ys p q = ap₂ (λ u v. u ++ v) p q ∙ sym (map-append numbered_access xs ys)

  body-accesses : (e : TextTree) → accesses_of (body_of tensors names e) ≡ map numbered_access (tree_accesses e)
  body-accesses (Access a) = refl
  body-accesses (Literal n) = refl
  body-accesses (Times a b) =
      joined (accesses_of (body_of tensors names a)) (accesses_of (body_of tensors names b)) (tree_accesses a) (tree_accesses b)
      (body-accesses a) (body-accesses b)
  body-accesses (Plus a b) =
      joined (accesses_of (body_of tensors names a)) (accesses_of (body_of tensors names b)) (tree_accesses a) (tree_accesses b)
      (body-accesses a) (body-accesses b)
  body-accesses (Minus a b) =
      joined (accesses_of (body_of tensors names a)) (accesses_of (body_of tensors names b)) (tree_accesses a) (tree_accesses b)
      (body-accesses a) (body-accesses b)
  body-accesses (Negate a) = body-accesses a
  body-accesses (Sum v place a) = body-accesses a

  body-pass : (p : Factor → Bool) (e : TextTree) → list_all p (accesses_of (body_of tensors names e))
      ≡ list_all (λ a. p (numbered_access a)) (tree_accesses e)
  body-pass p e = ap (λ fs. list_all p fs) (body-accesses e) ∙ list_all-map p numbered_access (tree_accesses e)

  module _ (left : List ℕ) where
    tops-pass : (p : Factor → Bool) (ts : List TopTextTree)
        → list_all (λ u. list_all p (accesses_of u.body)) (map (top_of tensors names left) ts)
        ≡ list_all (λ a. p (numbered_access a)) (flat_map top_accesses ts)
    tops-pass p [] = refl
    tops-pass p (t ∷ ts) =
        ap₂ (λ x y. x && y) (body-pass p t.body) (tops-pass p ts)
        ∙ sym (list_all-append (λ a. p (numbered_access a)) (top_accesses t) (flat_map top_accesses ts))

    tops-any : (p : Factor → Bool) (ts : List TopTextTree)
        → list_any (λ u. list_any p (accesses_of u.body)) (map (top_of tensors names left) ts)
        ≡ list_any (λ a. p (numbered_access a)) (flat_map top_accesses ts)
    tops-any p [] = refl
    tops-any p (t ∷ ts) =
        ap₂ (λ x y. x || y) (ap (λ fs. list_any p fs) (body-accesses t.body) ∙ list_any-map p numbered_access (top_accesses t))
        (tops-any p ts)
        ∙ sym (list_any-append (λ a. p (numbered_access a)) (top_accesses t) (flat_map top_accesses ts))

module _ (names : List (List ℕ)) (f : File) (vars : List Variable) where
  -- some access has a variable where some term has it
  pub terms-have : (k : ℕ) → terms_have (terms_of names f vars) k
      ≡ list_any (λ a. has_var k (numbered_access f.tensors names a)) (right_accesses f.statement)
  terms-have k = tops-have (sizes_of names f vars) (file_tops names f) k
      ∙ tops-any f.tensors names (left_of names f) (has_var k) f.statement.tops

  pub some-terms : 0 < length f.statement.tops → 0 < length (terms_of names f vars)
  some-terms h =
      let count = length-map f.statement.tops (top_of f.tensors names (left_of names f)) in
      some-tops (sizes_of names f vars) (file_tops names f) (omega (arith, h, count))

-- a test that literals pass is passed by all factors of the terms where it is by the accesses
pub terms-pass : (p : Factor → Bool) → ((n : ℕ) → p (factor.Literal n) ≡ true) → (names : List (List ℕ)) (f : File) (vars : List Variable)
    → list_all (λ t. list_all p t.factors) (terms_of names f vars)
    ≡ list_all (λ a. p (numbered_access f.tensors names a)) (right_accesses f.statement)
terms-pass p literals names f vars =
    pass-tops p literals (sizes_of names f vars) (file_tops names f) ∙ tops-pass f.tensors names (left_of names f) p f.statement.tops

-- ---- the top-level terms fit

module _ (tensors : List Tensor) (names : List (List ℕ)) (left : List ℕ) where
  -- the sums of a top-level term are right: in range, and over variables that they may be over
  abbrev pub has_right_sums : TopTextTree → Bool
  has_right_sums t =
      are_in_range (length names) (sum_vars (body_of tensors names t.body))
      && list_all (λ k. not (binds_wrong left (body_of tensors names t.body) k)) (sum_vars (body_of tensors names t.body))

  top-fits : (t : TopTextTree) → list_all (λ a. are_in_range (length names) (places names a.vars)) (top_accesses t) ≡ true
      → has_right_sums t ≡ true
      → top_fits (length names) left (top_of tensors names left t) ≡ true
  top-fits t below right =
      let body = body_of tensors names t.body in
      let used = used-pass (λ v. nat_lt v (length names)) body
      ∙ body-pass tensors names (λ g. list_all (λ v. nat_lt v (length names)) (vars_of g)) t.body ∙ below in
      let r = and_parts (are_in_range (length names) (sum_vars body))
      (list_all (λ k. not (binds_wrong left body k)) (sum_vars body)) right in
      let s = sums-apart (length names) left body r.0 r.1 in
      and_from _ _ used
      (and_from _ _ s.in_range
      (and_from _ _ s.apart
      (and_from _ _ s.off_left
      (and_from _ _ s.inside
      (same_list-self (implied_of (length names) left body))))))

  pub tops-fit : (ts : List TopTextTree) → list_all (λ a. are_in_range (length names) (places names a.vars)) (flat_map top_accesses ts)
      ≡ true → list_all has_right_sums ts ≡ true
      → list_all (top_fits (length names) left) (map (top_of tensors names left) ts) ≡ true
  tops-fit [] below right = refl
  tops-fit (t ∷ ts) below right =
      let q : AccessText → Bool = λ a. are_in_range (length names) (places names a.vars) in
      let p = and_parts (list_all q (top_accesses t)) (list_all q (flat_map top_accesses ts))
      (sym (list_all-append q (top_accesses t) (flat_map top_accesses ts)) ∙ below) in
      let r = and_parts (has_right_sums t) (list_all has_right_sums ts) right in
      and_from _ _ (top-fits t p.0 r.0) (tops-fit ts p.1 r.1)
