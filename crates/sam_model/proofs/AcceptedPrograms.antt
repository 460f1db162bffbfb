-- What is known of an accepted program: its parts, and that its terms are what its top-level terms expand to.
use Rattle.std.specs.Prelude.{◌≡◌, ◌<◌, ◌≤◌, ℕ, true, false, ◌&&◌, ◌==◌, List, [], ◌∷◌, length, slice_index, eqb, nat_le, nat_lt, refl}
use Rattle.std.specs.List.{list_all, list_any}
use mathlib.Core.List.{map}
use Rattle.std.proofs.Common.{◌⊎◌, inl, inr, arith, sym, ap, ◌∙◌}
use Rattle.std.proofs.lemmas.Bool.{and_parts, or_cases, not-true, eqb-true, leb-true, ltb-true}
use Rattle.sam_base.specs.declared.TheConstants.{FACTORS_MOST, TERMS_MOST, VARIABLES_MOST}
use Rattle.sam_model.specs.declared.tensors.Tensor.{Tensor}
use Rattle.sam_model.specs.declared.program.Term.{Term}
use Rattle.sam_model.specs.declared.program.Program.{Program}
use Rattle.sam_model.specs.Lists.{below, items_at, is_in}
use Rattle.sam_model.specs.Accepted.{distinct, distinct_names, ascending, is_dimension, is_order, is_well_formed, is_operand}
use Rattle.sam_model.specs.Accepted.{variables_fit, access_fits, factor_fits, is_access, term_has, factor_reduces, term_fits, stands}
use Rattle.sam_model.specs.Accepted.{is_taken, distinct_tensors, declarations_fit, statement_fits, fits_by_terms}
use Rattle.sam_model.specs.Expressions.{expanded_tops}
use Rattle.sam_model.specs.Scopes.{top_fits}
use Rattle.sam_model.specs.Program.{same_terms, tops_fit, accepted}
use Rattle.sam_model.proofs.EqualTerms.{same_terms-self, same_terms-true}

-- ---- tensors

pub record WellFormed (t : Tensor) : Type 0 where
  pub few : length t.dims ≤ 8
  pub dims : list_all is_dimension t.dims ≡ true
  pub formats : length t.formats ≡ length t.dims
  pub order : is_order (length t.dims) t.order ≡ true

pub well-formed : (t : Tensor) → is_well_formed t ≡ true → WellFormed t
well-formed t h =
    let few = and_parts (nat_le (length t.dims) VARIABLES_MOST) _ h in
    let dims = and_parts (list_all is_dimension t.dims) _ few.1 in
    let formats = and_parts (length t.formats == length t.dims) _ dims.1 in
    record { few = leb-true _ _ few.0; dims = dims.0; formats = eqb-true _ _ formats.0; order = formats.1 }

-- ---- the variables of an access

pub record Variables (sizes dims vars : List ℕ) : Type 0 where
  pub count : length vars ≡ length dims
  pub dims_are : map (slice_index sizes) vars ≡ dims
  pub in_range : (v : ℕ) → is_in v vars ≡ true → v < length sizes

pub variables : (sizes dims vars : List ℕ) → variables_fit sizes dims vars ≡ true → Variables sizes dims vars
variables sizes [] [] h = record { count = refl; dims_are = refl; in_range = λ v e. absurd (cc) }
variables sizes [] (v ∷ vars) h = absurd (cc)
variables sizes (d ∷ dims) [] h = absurd (cc)
variables sizes (d ∷ dims) (v ∷ vars) h =
    let a = and_parts (nat_lt v (length sizes)) (slice_index sizes v == d && variables_fit sizes dims vars) h in
    let b = and_parts (slice_index sizes v == d) (variables_fit sizes dims vars) a.1 in
    let r : Variables sizes dims vars = variables sizes dims vars b.1 in
    let here : slice_index sizes v ≡ d = eqb-true (slice_index sizes v) d b.0 in
    let there : map (slice_index sizes) vars ≡ dims = r.dims_are in
    record { count = omega (arith, r.count); dims_are = cc; in_range = in_range (ltb-true v (length sizes) a.0) r.in_range }
  where
    in_range : v < length sizes → ((w : ℕ) → is_in w vars ≡ true → w < length sizes) → (w : ℕ) → is_in w (v ∷ vars) ≡ true → w < length sizes
    in_range l r w e = by_case (or_cases (eqb w v) (is_in w vars) e)
      where
        by_case : (eqb w v ≡ true) ⊎ (is_in w vars ≡ true) → w < length sizes
        by_case (inl k) = let same : w ≡ v = eqb-true w v k in omega (arith, same, l)
        by_case (inr k) = r w k

pub record AccessFits (sizes vars : List ℕ) (t : Tensor) : Type 0 where
  pub variables : Variables sizes t.dims vars
  pub differ : distinct vars ≡ true
  pub ascends : ascending (items_at vars t.order) ≡ true

pub access-parts : (sizes vars : List ℕ) (t : Tensor) → access_fits sizes vars t ≡ true → AccessFits sizes vars t
access-parts sizes vars t h =
    let fit = and_parts (variables_fit sizes t.dims vars) _ h in
    let differ = and_parts (distinct vars) _ fit.1 in
    record { variables = variables sizes t.dims vars fit.0; differ = differ.0; ascends = differ.1 }

-- ---- a term

pub record TermParts (tensors : List Tensor) (sizes left : List ℕ) (t : Term) : Type 0 where
  pub some : 1 ≤ length t.factors
  pub few : length t.factors ≤ 8
  pub fit : list_all (factor_fits tensors sizes) t.factors ≡ true
  pub has : list_any is_access t.factors ≡ true
  pub complete : list_all (term_has t) left ≡ true
  pub reduce : list_all (factor_reduces left) t.factors ≡ true

pub term-parts : (tensors : List Tensor) (sizes left : List ℕ) (t : Term) → term_fits tensors sizes left t ≡ true → TermParts tensors sizes left t
term-parts tensors sizes left t h =
    let some = and_parts (nat_le 1 (length t.factors)) _ h in
    let few = and_parts (nat_le (length t.factors) FACTORS_MOST) _ some.1 in
    let fit = and_parts (list_all (factor_fits tensors sizes) t.factors) _ few.1 in
    let has = and_parts (list_any is_access t.factors) _ fit.1 in
    let complete = and_parts (list_all (term_has t) left) _ has.1 in
    record { some = leb-true _ _ some.0; few = leb-true _ _ few.0; fit = fit.0; has = has.0; complete = complete.0; reduce = complete.1 }

-- ---- a program

-- what is known of a program that fits together by its terms
pub record FitParts (p : Program) : Type 0 where
  pub operands : list_all is_operand p.tensors ≡ true
  pub result : is_well_formed p.result ≡ true
  pub differ : distinct_tensors p.tensors ≡ true
  pub free : is_taken p.result.name p.tensors ≡ false
  pub named : length p.var_names ≡ length p.var_sizes
  pub few : length p.var_sizes ≤ 8
  pub apart : distinct_names p.var_names ≡ true
  pub stood : list_all (stands p.left p.terms) (below (length p.var_sizes)) ≡ true
  pub left : access_fits p.var_sizes p.left p.result ≡ true
  pub some : 1 ≤ length p.terms
  pub short : length p.terms ≤ 16
  pub terms : list_all (term_fits p.tensors p.var_sizes p.left) p.terms ≡ true

fit-parts : (p : Program) → fits_by_terms p ≡ true → FitParts p
fit-parts p e =
    let both = and_parts (declarations_fit p.tensors p.result) (statement_fits p) e in
    let operands = and_parts (list_all is_operand p.tensors) _ both.0 in
    let result = and_parts (is_well_formed p.result) _ operands.1 in
    let differ = and_parts (distinct_tensors p.tensors) _ result.1 in
    let named = and_parts (length p.var_names == length p.var_sizes) _ both.1 in
    let few = and_parts (nat_le (length p.var_sizes) VARIABLES_MOST) _ named.1 in
    let apart = and_parts (distinct_names p.var_names) _ few.1 in
    let stood = and_parts (list_all (stands p.left p.terms) (below (length p.var_sizes))) _ apart.1 in
    let left = and_parts (access_fits p.var_sizes p.left p.result) _ stood.1 in
    let some = and_parts (nat_le 1 (length p.terms)) _ left.1 in
    let short = and_parts (nat_le (length p.terms) TERMS_MOST) _ some.1 in
    record {
      operands = operands.0;
      result = result.0;
      differ = differ.0;
      free = not-true (is_taken p.result.name p.tensors) differ.1;
      named = eqb-true _ _ named.0;
      few = leb-true _ _ few.0;
      apart = apart.0;
      stood = stood.0;
      left = left.0;
      some = leb-true _ _ some.0;
      short = leb-true _ _ short.0;
      terms = short.1;
    }

pub by-terms : (p : Program) → accepted p ≡ true → fits_by_terms p ≡ true
by-terms p e = (and_parts (fits_by_terms p) (tops_fit p) e).0

pub accepted-parts : (p : Program) → accepted p ≡ true → FitParts p
accepted-parts p e = fit-parts p (by-terms p e)

pub result-formed : (p : Program) → accepted p ≡ true → is_well_formed p.result ≡ true
result-formed p e = (accepted-parts p e).result

tops_parts : (p : Program) → accepted p ≡ true
    → (same_terms p.terms (expanded_tops p.var_sizes p.tops) ≡ true) × (list_all (top_fits (length p.var_sizes) p.left) p.tops ≡ true)
tops_parts p e =
    and_parts (same_terms p.terms (expanded_tops p.var_sizes p.tops)) (list_all (top_fits (length p.var_sizes) p.left) p.tops)
    (and_parts (fits_by_terms p) (tops_fit p) e).1

pub terms-expanded : (p : Program) → accepted p ≡ true → p.terms ≡ expanded_tops p.var_sizes p.tops
terms-expanded p e = same_terms-true p.terms (expanded_tops p.var_sizes p.tops) (tops_parts p e).0

pub each-top-fits : (p : Program) → accepted p ≡ true → list_all (top_fits (length p.var_sizes) p.left) p.tops ≡ true
each-top-fits p e = (tops_parts p e).1

-- a program that fits together by its terms, whose top-level terms fit and expand to them, is accepted
pub accepted-of : (p : Program) → fits_by_terms p ≡ true → p.terms ≡ expanded_tops p.var_sizes p.tops
    → list_all (top_fits (length p.var_sizes) p.left) p.tops ≡ true → accepted p ≡ true
accepted-of p e f g =
    let same : same_terms p.terms (expanded_tops p.var_sizes p.tops) ≡ true = ap (same_terms p.terms) (sym f) ∙ same_terms-self p.terms in rw e (rw same g)
