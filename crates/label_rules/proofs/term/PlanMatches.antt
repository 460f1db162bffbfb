-- The plan of a term of an accepted program matches the term over the stored tensors.
use Rattle.std.specs.Prelude.{◌≡◌, ◌<◌, ◌≤◌, ◌⊎◌, ℕ, zero, suc, ◌-◌, ◌*◌, ◌%◌, ◌^◌, Bool, true, false, ◌&&◌, ◌||◌, not, cond, List, [], ◌∷◌, length, get_or, nat_le, if◌then◌else◌, Some, None, slice_index, refl}
use Rattle.std.specs.List.{list_any, list_all}
use mathlib.Core.List.{map}
use Rattle.std.proofs.Common.{arith, sym, ◌∙◌, ap, subst, inl, inr}
use Rattle.std.proofs.lemmas.Bool.{and_parts, or_cases, leb-true}
use Rattle.std.proofs.lemmas.List.{length-map}
use Rattle.stream_tokens.proofs.Algebra.{map-map}
use Rattle.stream_tokens.specs.Shapes.{Each}
use Rattle.levels.proofs.ConditionLemmas.{storable}
use Rattle.sam_model.specs.declared.tensors.Tensor.{Tensor}
use Rattle.sam_model.specs.declared.tensors.Entries.{Entries}
use Rattle.sam_model.specs.declared.program.Factor.{Factor}
use Rattle.sam_model.specs.declared.program.Factor.TheVariants.{Access, Literal}
use Rattle.sam_model.specs.declared.program.Term.{Term}
use Rattle.sam_model.specs.declared.program.Program.{Program}
use Rattle.sam_model.specs.Children.{ranked}
use Rattle.sam_model.specs.Lists.{is_in, items_at}
use Rattle.sam_model.specs.Tensors.{Stored}
use Rattle.sam_model.specs.Denote.{has_var, loops_of, Loop, loop_list, tensor_at, stored_of}
use Rattle.sam_model.specs.Accepted.{is_access, is_operand, is_well_formed, tensor_passes, access_fits, factor_fits, term_has, factor_reduces, term_fits}
use Rattle.sam_model.specs.Program.{accepted}
use Rattle.stream_model.specs.Terms.{Operand, access_at, keep, mask_of, operands_of, literals_of, coefficient_of, term_data}
use Rattle.stream_model.specs.Labels.{loop_sizes}
use Rattle.sam_model.proofs.Lists.{filter-range}
use Rattle.stream_model.proofs.Places.{accepted-operands, declared-at, term-fit}
use Rattle.stream_model.proofs.Depths.{term-few, term-shallow}
use Rattle.stream_model.proofs.Prefixes.{keep-none}
use Rattle.graph.specs.Meaning.{stored_at}
use Rattle.label_rules.specs.Plans.{no_access, accesses_of, has_literal, plan_of}
use Rattle.label_rules.specs.Storages.{storages_of}
use Rattle.label_rules.proofs.term.Masked.{term-masked}
use Rattle.label_rules.proofs.term.Matching.{Matches, IsCoefficient}

-- ---- what an accepted term satisfies

record TermFits (p : Program) (t : Term) : Type 0 where
  few : length t.factors ≤ 8
  factors : list_all (factor_fits p.tensors p.var_sizes) t.factors ≡ true
  some : list_any is_access t.factors ≡ true

fits_of : (p : Program) (t : Term) → term_fits p.tensors p.var_sizes p.left t ≡ true → TermFits p t
fits_of p t h =
    let a =
    and_parts (nat_le 1 (length t.factors)) (nat_le (length t.factors) 8
    && (list_all (factor_fits p.tensors p.var_sizes) t.factors
    && (list_any is_access t.factors && (list_all (term_has t) p.left && list_all (factor_reduces p.left) t.factors)))) h in
    let b = and_parts (nat_le (length t.factors) 8) (list_all (factor_fits p.tensors p.var_sizes) t.factors
    && (list_any is_access t.factors && (list_all (term_has t) p.left && list_all (factor_reduces p.left) t.factors))) a.1 in
    let c = and_parts (list_all (factor_fits p.tensors p.var_sizes) t.factors)
    (list_any is_access t.factors && (list_all (term_has t) p.left && list_all (factor_reduces p.left) t.factors)) b.1 in
    let d =
    and_parts (list_any is_access t.factors)
    (list_all (term_has t) p.left && list_all (factor_reduces p.left) t.factors) c.1 in
    record { few = leb-true (length t.factors) 8 b.0; factors = c.0; some = d.0 }

-- ---- accesses

same_number : (stored : List Stored) (loops : List ℕ) (factors : List Factor)
    → length (accesses_of loops factors) ≡ length (operands_of stored loops factors)
same_number stored loops [] = refl
same_number stored loops (Access n vars ∷ factors) = ap suc (same_number stored loops factors)
same_number stored loops (Literal n ∷ factors) = same_number stored loops factors

same_has : (stored : List Stored) (loops : List ℕ) (factors : List Factor) (f : ℕ)
    → (get_or (accesses_of loops factors) f no_access).has ≡ (access_at (operands_of stored loops factors) f).has
same_has stored loops [] f = refl
same_has stored loops (Access n vars ∷ factors) zero = refl
same_has stored loops (Access n vars ∷ factors) (suc f) = same_has stored loops factors f
same_has stored loops (Literal n ∷ factors) f = same_has stored loops factors f

same_tensor : (stored : List Stored) (loops : List ℕ) (factors : List Factor) (f : ℕ)
    → f < length (operands_of stored loops factors)
    → (access_at (operands_of stored loops factors) f).tensor
    ≡ tensor_at stored (get_or (accesses_of loops factors) f no_access).tensor
same_tensor stored loops [] f l = absurd (omega (arith, l))
same_tensor stored loops (Access n vars ∷ factors) zero l = refl
same_tensor stored loops (Access n vars ∷ factors) (suc f) l = same_tensor stored loops factors f (omega (arith, l))
same_tensor stored loops (Literal n ∷ factors) f l = same_tensor stored loops factors f l

passes_there : (test : Tensor → Bool) (ts : List Tensor) (n : ℕ) → tensor_passes test ts n ≡ true → n < length ts
passes_there test [] n e = absurd (cc)
passes_there test (t ∷ ts) zero e = omega arith
passes_there test (t ∷ ts) (suc n) e = let l = passes_there test ts n e in omega (arith, l)

tensor_there : (ts : List Tensor) (sizes : List ℕ) (stored : List Stored) (loops : List ℕ) (factors : List Factor) (f : ℕ)
    → list_all (factor_fits ts sizes) factors ≡ true → f < length (operands_of stored loops factors)
    → (get_or (accesses_of loops factors) f no_access).tensor < length ts
tensor_there ts sizes stored loops [] f e l = absurd (omega (arith, l))
tensor_there ts sizes stored loops (Access n vars ∷ factors) zero e l =
    passes_there (access_fits sizes vars) ts n
    (and_parts (tensor_passes (access_fits sizes vars) ts n) (list_all (factor_fits ts sizes) factors) e).0
tensor_there ts sizes stored loops (Access n vars ∷ factors) (suc f) e l =
    tensor_there ts sizes stored loops factors f
    (and_parts (tensor_passes (access_fits sizes vars) ts n) (list_all (factor_fits ts sizes) factors) e).1 (omega (arith, l))
tensor_there ts sizes stored loops (Literal n ∷ factors) f e l = tensor_there ts sizes stored loops factors f e l

stored_number : (ts : List Tensor) (es : List Entries) → length es ≡ length ts → length (stored_of ts es) ≡ length ts
stored_number [] es e = refl
stored_number (t ∷ ts) [] e = absurd (omega (arith, e))
stored_number (t ∷ ts) (x ∷ es) e = ap suc (stored_number ts es (omega (arith, e)))

ranked_at : (stored : List Stored) (n : ℕ) → n < length stored → stored_at (map ranked stored) n ≡ ranked (tensor_at stored n)
ranked_at [] n l = absurd (omega (arith, l))
ranked_at (a ∷ stored) zero l = refl
ranked_at (a ∷ stored) (suc n) l = ranked_at stored n (omega (arith, l))

few_operands : (stored : List Stored) (loops : List ℕ) (factors : List Factor)
    → length (operands_of stored loops factors) ≤ length factors
few_operands stored loops [] = omega arith
few_operands stored loops (Access n vars ∷ factors) = let l = few_operands stored loops factors in omega (arith, l)
few_operands stored loops (Literal n ∷ factors) = let l = few_operands stored loops factors in omega (arith, l)

some_operand : (stored : List Stored) (loops : List ℕ) (factors : List Factor) → list_any is_access factors ≡ true
    → 0 < length (operands_of stored loops factors)
some_operand stored loops [] e = absurd (cc)
some_operand stored loops (Access n vars ∷ factors) e = omega arith
some_operand stored loops (Literal n ∷ factors) e = some_operand stored loops factors e

-- ---- loops

mask_at : (loops vars : List ℕ) (d : ℕ) → d < length loops → get_or (mask_of loops vars) d false ≡ is_in (get_or loops d 0) vars
mask_at [] vars d l = absurd (omega (arith, l))
mask_at (v ∷ loops) vars zero l = refl
mask_at (v ∷ loops) vars (suc d) l = mask_at loops vars d (omega (arith, l))

-- an access that has the variable of a loop
abbrev Uses : List Operand → ℕ → Type 0
Uses operands d = (f : ℕ) × (f < length operands) × (get_or (access_at operands f).has d false ≡ true)

uses_of : (stored : List Stored) (loops : List ℕ) (factors : List Factor) (d : ℕ) → d < length loops
    → list_any (has_var (get_or loops d 0)) factors ≡ true → Uses (operands_of stored loops factors) d
uses_of stored loops [] d l e = absurd (cc)
uses_of stored loops (Access n vars ∷ factors) d l e =
    by_case (or_cases (is_in (get_or loops d 0) vars) (list_any (has_var (get_or loops d 0)) factors) e)
    (uses_of stored loops factors d l)
  where
    by_case : (is_in (get_or loops d 0) vars ≡ true) ⊎ (list_any (has_var (get_or loops d 0)) factors ≡ true)
        → (list_any (has_var (get_or loops d 0)) factors ≡ true → Uses (operands_of stored loops factors) d)
        → Uses (operands_of stored loops (Access n vars ∷ factors)) d
    by_case (inl k) later = (0, omega arith, mask_at loops vars d l ∙ k)
    by_case (inr k) later = let u = later k in let i = u.1 in (suc u.0, omega (arith, i), u.2)
uses_of stored loops (Literal n ∷ factors) d l e = uses_of stored loops factors d l e

each_at : (Q : ℕ → Type 0) (xs : List ℕ) (d : ℕ) → d < length xs → Each Q xs → Q (get_or xs d 0)
each_at Q [] d l e = absurd (omega (arith, l))
each_at Q (x ∷ xs) zero l e = e.0
each_at Q (x ∷ xs) (suc d) l e = each_at Q xs d (omega (arith, l)) e.1

-- ---- the coefficient

no_literals : (factors : List Factor) → list_any (λ f. not (is_access f)) factors ≡ false → literals_of factors ≡ 1
no_literals [] e = refl
no_literals (Access n vars ∷ factors) e = no_literals factors e
no_literals (Literal n ∷ factors) e = absurd (cc)

plain_coefficient : (minus : Bool) (factors : List Factor) → (minus || list_any (λ f. not (is_access f)) factors) ≡ false
    → (cond minus (2 ^ 64 - 1) 1 * literals_of factors) % 2 ^ 64 ≡ 1
plain_coefficient true factors e = absurd (cc)
plain_coefficient false factors e = rw (no_literals factors e) refl

-- where a minus or a literal stands, the coefficient is told, and elsewhere it is 1
coefficient_is : (first : Bool) (t : Term)
    → IsCoefficient (if has_literal first t then Some (coefficient_of first t) else None) (coefficient_of first t)
coefficient_is first t = by_case (has_literal first t) refl
  where
    by_case : (b : Bool) → has_literal first t ≡ b
        → IsCoefficient (if b then Some (coefficient_of first t) else None) (coefficient_of first t)
    by_case true e = refl
    by_case false e = plain_coefficient (first && t.minus) t.factors e

-- ---- some loop

-- the tensor of the first access
record FirstAccess (ts : List Tensor) (sizes : List ℕ) (stored : List Stored) (operands : List Operand) : Type 0 where
  number : ℕ
  vars : List ℕ
  passes : tensor_passes (access_fits sizes vars) ts number ≡ true
  tensor_is : (access_at operands 0).tensor ≡ tensor_at stored number

first_access : (ts : List Tensor) (sizes : List ℕ) (stored : List Stored) (loops : List ℕ) (factors : List Factor)
    → list_all (factor_fits ts sizes) factors ≡ true → list_any is_access factors ≡ true
    → FirstAccess ts sizes stored (operands_of stored loops factors)
first_access ts sizes stored loops [] e k = absurd (cc)
first_access ts sizes stored loops (Access n vars ∷ factors) e k = record {
  number = n;
  vars = vars;
  passes = (and_parts (tensor_passes (access_fits sizes vars) ts n) (list_all (factor_fits ts sizes) factors) e).0;
  tensor_is = refl;
}
first_access ts sizes stored loops (Literal n ∷ factors) e k = first_access ts sizes stored loops factors e k

some_sizes : (t : Tensor) → is_operand t ≡ true → 0 < length (items_at t.dims t.order)
some_sizes t e =
    let a = and_parts (nat_le 1 (length t.dims)) (is_well_formed t) e in
    let some : 1 ≤ length t.dims = leb-true 1 (length t.dims) a.0 in
    let as_many = (storable t a.1).levels in
    let sized : length (items_at t.dims t.order) ≡ length t.order = length-map t.order (slice_index t.dims) in
    omega (arith, some, as_many, sized)

some_loops : (loops : List Loop) (a : Operand) → keep a.has (loop_sizes loops) ≡ a.tensor.sizes → 0 < length a.tensor.sizes
    → 0 < length loops
some_loops [] a fit some =
    let none : length a.tensor.sizes ≡ 0 = ap (λ (s : List ℕ). length s) (sym fit ∙ keep-none a.has) in
    absurd (omega (arith, none, some))
some_loops (l ∷ loops) a fit some = omega arith

-- ---- the plan

-- a term of an accepted program over entries for each tensor
pub plan-matches : (p : Program) (es : List Entries) (first : Bool) (t : Term) → accepted p ≡ true
    → term_fits p.tensors p.var_sizes p.left t ≡ true
    → length es ≡ length p.tensors → Matches (storages_of p es) (term_data p es first t) (plan_of p first t)
plan-matches p es first t ok fits same =
    let stored = stored_of p.tensors es in
    let loops = loops_of p t in
    let x = fits_of p t fits in
    let many : length stored ≡ length p.tensors = stored_number p.tensors es same in
    let as_many : length (map ranked stored) ≡ length stored = length-map stored ranked in
    let number = same_number stored loops t.factors in
    let inside : (f : ℕ) → f < length (operands_of stored loops t.factors)
    → (get_or (accesses_of loops t.factors) f no_access).tensor < length stored =
    λ f l. let a = tensor_there p.tensors p.var_sizes stored loops t.factors f x.factors l in omega (arith, a, many) in
    let some = some_operand stored loops t.factors x.some in
    let fit = term-fit p es first t ok fits same in
    let long : length (loop_list p t) ≡ length loops = length-map loops (λ v. (slice_index p.var_sizes v, is_in v p.left)) in
    let a0 = first_access p.tensors p.var_sizes stored loops t.factors x.factors x.some in
    let declared = declared-at p.var_sizes a0.vars p.tensors es a0.number a0.passes (accepted-operands p ok) same in
    let sizes : (access_at (operands_of stored loops t.factors) 0).tensor.sizes
    ≡ items_at declared.tensor.dims declared.tensor.order =
    ap (λ (s : Stored). s.sizes) a0.tensor_is ∙ declared.sizes_are in
    let sized : 0 < length (access_at (operands_of stored loops t.factors) 0).tensor.sizes =
    subst (λ (s : List ℕ). 0 < length s) (sym sizes) (some_sizes declared.tensor declared.operand) in
    record {
      number = number;
      has = same_has stored loops t.factors;
      there = λ f l. let i = inside f l in omega (arith, i, as_many);
      stored = λ f l. ranked_at stored (get_or (accesses_of loops t.factors) f no_access).tensor (inside f l)
          ∙ ap ranked (sym (same_tensor stored loops t.factors f l));
      marks = sym (map-map (λ (l : Loop). l.1) (λ v. (slice_index p.var_sizes v, is_in v p.left)) loops);
      coefficient = coefficient_is first t;
      some_access = some;
      some_loop = some_loops (loop_list p t) (access_at (operands_of stored loops t.factors) 0) (fit 0 some) sized;
      few_accesses = let few = few_operands stored loops t.factors in let few_factors = x.few in omega (arith, few, few_factors);
      few_loops = term-few p t ok;
      fit = fit;
      long = term-masked p es first t;
      used = λ d l. uses_of stored loops t.factors d (omega (arith, l, long))
          (each_at (λ v. (list_any (has_var v) t.factors ≡ true) × (v < length p.var_sizes)) loops d (omega (arith, l, long))
          (filter-range (λ v. list_any (has_var v) t.factors) 0 (length p.var_sizes) (length p.var_sizes) (omega arith))).0;
      shallow = λ before s after e. term-shallow p t before s after fits e;
    }
