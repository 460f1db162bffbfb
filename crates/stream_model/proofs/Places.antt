-- The accesses of an accepted program: their coordinates at a tuple, and the sizes of their loops.
use Rattle.std.specs.Prelude.{◌≡◌, ◌<◌, ℕ, zero, suc, Bool, true, false, cond, List, [], ◌∷◌, length, slice_index, nat_le, eqb, refl}
use Rattle.std.specs.List.{filter, list_any, list_all}
use mathlib.Core.List.{map}
use Rattle.std.proofs.Common.{arith, sym, ◌∙◌, ap, inl, inr, ◌⊎◌}
use Rattle.std.proofs.lemmas.Bool.{and_parts, or_cases, or_left, or_right, eqb-true, eq-eqb}
use Rattle.sam_model.specs.declared.tensors.Tensor.{Tensor}
use Rattle.sam_model.specs.declared.tensors.Entries.{Entries}
use Rattle.sam_model.specs.declared.program.Factor.{Factor}
use Rattle.sam_model.specs.declared.program.Factor.TheVariants.{Access, Literal}
use Rattle.sam_model.specs.declared.program.Term.{Term}
use Rattle.sam_model.specs.declared.program.Program.{Program}
use Rattle.sam_model.specs.Lists.{items_at, is_in, coordinate}
use Rattle.sam_model.specs.Denote.{has_var, loops_of, Loop, loop_list, tensor_at, stored_of, order_at, access_place}
use Rattle.sam_model.specs.Accepted.{is_order, is_well_formed, is_operand, access_fits, tensor_passes, factor_fits, term_has, term_fits}
use Rattle.sam_model.specs.Program.{accepted}
use Rattle.stream_tokens.specs.Shapes.{Each}
use Rattle.stream_tokens.proofs.Algebra.{map-map}
use Rattle.stream_model.specs.Terms.{keep, access_at, mask_of, operands_of, term_data}
use Rattle.stream_model.specs.Trees.{free_count, kept_sizes, reduced_sizes}
use Rattle.stream_model.specs.Labels.{loop_sizes, result_sizes}
use Rattle.stream_model.specs.Masks.{AllFit}
use Rattle.sam_model.proofs.AcceptedPrograms.{AccessFits, access-parts, well-formed, term-parts, accepted-parts, result-formed}
use Rattle.sam_model.proofs.Lists.{filter-ext}
use Rattle.sam_model.proofs.Orders.{is_in-items, items_at-map, order-in-range, Rises, rises, Rises-range, filter-members, coordinate-map}
use Rattle.stream_model.proofs.TermLaw.{kept-none}

-- what a mask keeps
keep-map : (mask : ℕ → Bool) (g : ℕ → ℕ) (vs : List ℕ) → keep (map mask vs) (map g vs) ≡ map g (filter mask vs)
keep-map mask g [] = refl
keep-map mask g (v ∷ vs) = by_case (mask v) (keep-map mask g vs)
  where
    by_case : (b : Bool) → keep (map mask vs) (map g vs) ≡ map g (filter mask vs)
        → cond b (g v ∷ keep (map mask vs) (map g vs)) (keep (map mask vs) (map g vs)) ≡ map g (cond b (v ∷ filter mask vs) (filter mask vs))
    by_case true r = ap (λ (xs : List ℕ). g v ∷ xs) r
    by_case false r = r

-- ---- what is accepted

pub accepted-operands : (p : Program) → accepted p ≡ true → list_all is_operand p.tensors ≡ true
accepted-operands p h = (accepted-parts p h).operands

pub accepted-terms : (p : Program) → accepted p ≡ true → list_all (term_fits p.tensors p.var_sizes p.left) p.terms ≡ true
accepted-terms p h = (accepted-parts p h).terms

-- ---- the tensor of an access

pub record Declared (sizes vars : List ℕ) (ts : List Tensor) (es : List Entries) (n : ℕ) : Type 0 where
  pub tensor : Tensor
  pub fits : access_fits sizes vars tensor ≡ true
  pub operand : is_operand tensor ≡ true
  pub order_is : order_at ts n ≡ tensor.order
  pub sizes_are : (tensor_at (stored_of ts es) n).sizes ≡ items_at tensor.dims tensor.order

pub declared-at : (sizes vars : List ℕ) (ts : List Tensor) (es : List Entries) (n : ℕ) → tensor_passes (access_fits sizes vars) ts n ≡ true
    → list_all is_operand ts ≡ true → length es ≡ length ts → Declared sizes vars ts es n
declared-at sizes vars [] es n h o e = absurd (cc)
declared-at sizes vars (t ∷ ts) [] n h o e = absurd (omega (arith, e))
declared-at sizes vars (t ∷ ts) (x ∷ es) zero h o e =
    record { tensor = t; fits = h; operand = (and_parts (is_operand t) (list_all is_operand ts) o).0; order_is = refl; sizes_are = refl }
declared-at sizes vars (t ∷ ts) (x ∷ es) (suc n) h o e =
    let r = declared-at sizes vars ts es n h (and_parts (is_operand t) (list_all is_operand ts) o).1 (omega (arith, e)) in
    record { tensor = r.tensor; fits = r.fits; operand = r.operand; order_is = r.order_is; sizes_are = r.sizes_are }

-- ---- the variables of an access

each_member : (Q : ℕ → Type 0) (xs : List ℕ) → ((x : ℕ) → is_in x xs ≡ true → Q x) → Each Q xs
each_member Q [] h = tt
each_member Q (x ∷ xs) h =
    (h x (or_left (eqb x x) (is_in x xs) (eq-eqb x x refl)), each_member Q xs (λ y e. h y (or_right (eqb y x) (is_in y xs) e)))

-- ---- an access among the loops of its term

-- its coordinates in storage order are those that its mask keeps, and so are its sizes
pub record Placed (p : Program) (es : List Entries) (t : Term) (n : ℕ) (vars : List ℕ) : Type 0 where
  pub at : (u : List ℕ) → length u ≡ length (loops_of p t) → access_place p (loops_of p t) u n vars ≡ keep (mask_of (loops_of p t) vars) u
  pub sizes : keep (mask_of (loops_of p t) vars) (loop_sizes (loop_list p t)) ≡ (tensor_at (stored_of p.tensors es) n).sizes

-- the variables of one tensor are found among the loops of a term that has them
pub record Kept (p : Program) (t : Term) (vars : List ℕ) (tensor : Tensor) : Type 0 where
  pub permutes : is_order (length vars) tensor.order ≡ true
  pub loops : filter (λ w. is_in w vars) (loops_of p t) ≡ items_at vars tensor.order
  pub sizes : map (slice_index p.var_sizes) (items_at vars tensor.order) ≡ items_at tensor.dims tensor.order

pub kept-at : (p : Program) (t : Term) (vars : List ℕ) (tensor : Tensor) → access_fits p.var_sizes vars tensor ≡ true → is_well_formed tensor ≡ true
    → ((v : ℕ) → is_in v vars ≡ true → list_any (has_var v) t.factors ≡ true) → Kept p t vars tensor
kept-at p t vars tensor fits well has = record { permutes = permutes; loops = loops; sizes = sizes }
  where
    access : AccessFits p.var_sizes vars tensor
    access = access-parts p.var_sizes vars tensor fits

    permutes : is_order (length vars) tensor.order ≡ true
    permutes = ap (λ (k : ℕ). is_order k tensor.order) access.variables.count ∙ (well-formed tensor well).order

    rising : Rises 0 (items_at vars tensor.order)
    rising = rises (items_at vars tensor.order) access.ascends

    member : (w : ℕ) → is_in w (items_at vars tensor.order) ≡ true → (list_any (has_var w) t.factors ≡ true) × (w < length p.var_sizes)
    member w e = let k : is_in w vars ≡ true = sym (is_in-items vars tensor.order w permutes) ∙ e in (has w k, access.variables.in_range w k)

    loops : filter (λ w. is_in w vars) (loops_of p t) ≡ items_at vars tensor.order
    loops =
        filter-ext (λ w. is_in w vars) (λ w. is_in w (items_at vars tensor.order)) (λ w. sym (is_in-items vars tensor.order w permutes)) (loops_of p t)
        ∙ filter-members (λ w. list_any (has_var w) t.factors) 0 (length p.var_sizes) (length p.var_sizes) (items_at vars tensor.order) (omega arith) rising
        (each_member (λ w. (list_any (has_var w) t.factors ≡ true) × (w < length p.var_sizes)) (items_at vars tensor.order) member)

    sizes : map (slice_index p.var_sizes) (items_at vars tensor.order) ≡ items_at tensor.dims tensor.order
    sizes =
        sym (items_at-map (slice_index p.var_sizes) vars tensor.order (order-in-range (length vars) tensor.order permutes))
        ∙ ap (λ (x : List ℕ). items_at x tensor.order) access.variables.dims_are

pub placed : (p : Program) (es : List Entries) (t : Term) (n : ℕ) (vars : List ℕ) → Declared p.var_sizes vars p.tensors es n
    → ((v : ℕ) → is_in v vars ≡ true → list_any (has_var v) t.factors ≡ true) → Placed p es t n vars
placed p es t n vars d has = record { at = at; sizes = sizes }
  where
    kept : Kept p t vars d.tensor
    kept = kept-at p t vars d.tensor d.fits (and_parts (nat_le 1 (length d.tensor.dims)) (is_well_formed d.tensor) d.operand).1 has

    at : (u : List ℕ) → length u ≡ length (loops_of p t) → access_place p (loops_of p t) u n vars ≡ keep (mask_of (loops_of p t) vars) u
    at u e =
        ap (items_at (map (coordinate (loops_of p t) u) vars)) d.order_is
        ∙ items_at-map (coordinate (loops_of p t) u) vars d.tensor.order (order-in-range (length vars) d.tensor.order kept.permutes)
        ∙ ap (map (coordinate (loops_of p t) u)) (sym kept.loops)
        ∙ sym (keep-map (λ w. is_in w vars) (coordinate (loops_of p t) u) (loops_of p t))
        ∙ ap (keep (mask_of (loops_of p t) vars))
        (coordinate-map 0 (loops_of p t) u (Rises-range (λ w. list_any (has_var w) t.factors) 0 (length p.var_sizes)) e)

    sizes : keep (mask_of (loops_of p t) vars) (loop_sizes (loop_list p t)) ≡ (tensor_at (stored_of p.tensors es) n).sizes
    sizes =
        ap (keep (mask_of (loops_of p t) vars)) (map-map (λ (l : Loop). l.0) (λ w. (slice_index p.var_sizes w, is_in w p.left)) (loops_of p t))
        ∙ keep-map (λ w. is_in w vars) (slice_index p.var_sizes) (loops_of p t)
        ∙ ap (map (slice_index p.var_sizes)) kept.loops
        ∙ kept.sizes
        ∙ sym d.sizes_are

-- ---- all accesses of a term

abbrev pub AllPlaced : Program → List Entries → Term → List Factor → Type 0
AllPlaced p es t [] = Unit {0}
AllPlaced p es t (Access n vars ∷ factors) = Placed p es t n vars × AllPlaced p es t factors
AllPlaced p es t (Literal n ∷ factors) = AllPlaced p es t factors

factors_placed : (p : Program) (es : List Entries) (t : Term) (factors : List Factor) → list_all (factor_fits p.tensors p.var_sizes) factors ≡ true
    → list_all is_operand p.tensors ≡ true → length es ≡ length p.tensors
    → ((v : ℕ) → list_any (has_var v) factors ≡ true → list_any (has_var v) t.factors ≡ true) → AllPlaced p es t factors
factors_placed p es t [] h o e has = tt
factors_placed p es t (Access n vars ∷ factors) h o e has =
    let f = and_parts (tensor_passes (access_fits p.var_sizes vars) p.tensors n) (list_all (factor_fits p.tensors p.var_sizes) factors) h in (
      placed p es t n vars (declared-at p.var_sizes vars p.tensors es n f.0 o e) (λ v k. has v (or_left (is_in v vars) (list_any (has_var v) factors) k)),
      factors_placed p es t factors f.1 o e (λ v k. has v (or_right (is_in v vars) (list_any (has_var v) factors) k)),
    )
factors_placed p es t (Literal n ∷ factors) h o e has = factors_placed p es t factors h o e has

-- where a term of a program is accepted, all its accesses are placed
pub term-placed : (p : Program) (es : List Entries) (t : Term) → accepted p ≡ true → term_fits p.tensors p.var_sizes p.left t ≡ true → length es ≡ length p.tensors
    → AllPlaced p es t t.factors
term-placed p es t h k e =
    factors_placed p es t t.factors (term-parts p.tensors p.var_sizes p.left t k).fit (accepted-operands p h) e (λ v i. i)

all_fit : (p : Program) (es : List Entries) (t : Term) (factors : List Factor) → AllPlaced p es t factors → (f : ℕ)
    → f < length (operands_of (stored_of p.tensors es) (loops_of p t) factors)
    → keep (access_at (operands_of (stored_of p.tensors es) (loops_of p t) factors) f).has (loop_sizes (loop_list p t))
    ≡ (access_at (operands_of (stored_of p.tensors es) (loops_of p t) factors) f).tensor.sizes
all_fit p es t [] h f l = absurd (omega (arith, l))
all_fit p es t (Access n vars ∷ factors) h zero l = h.0.sizes
all_fit p es t (Access n vars ∷ factors) h (suc f) l = all_fit p es t factors h.1 f (omega (arith, l))
all_fit p es t (Literal n ∷ factors) h f l = all_fit p es t factors h f l

-- the loops of each access have the sizes of its tensor
pub term-fit : (p : Program) (es : List Entries) (first : Bool) (t : Term) → accepted p ≡ true → term_fits p.tensors p.var_sizes p.left t ≡ true
    → length es ≡ length p.tensors → AllFit (term_data p es first t)
term-fit p es first t h k e = all_fit p es t t.factors (term-placed p es t h k e)

-- ---- the levels of the result

pub kept-sizes-map : (size : ℕ → ℕ) (test : ℕ → Bool) (vs : List ℕ) → kept_sizes (map (λ v. (size v, test v)) vs) ≡ map size (filter test vs)
kept-sizes-map size test [] = refl
kept-sizes-map size test (v ∷ vs) = by_case (test v) (kept-sizes-map size test vs)
  where
    by_case : (b : Bool) → kept_sizes (map (λ v. (size v, test v)) vs) ≡ map size (filter test vs)
        → cond b (size v ∷ kept_sizes (map (λ v. (size v, test v)) vs)) (kept_sizes (map (λ v. (size v, test v)) vs)) ≡ map size (cond b (v ∷ filter test vs) (filter test vs))
    by_case true e = ap (λ (x : List ℕ). size v ∷ x) e
    by_case false e = e

pub accepted-result : (p : Program) → accepted p ≡ true → (access_fits p.var_sizes p.left p.result ≡ true) × (is_well_formed p.result ≡ true)
accepted-result p h = ((accepted-parts p h).left, result-formed p h)

has_all : (t : Term) (vs : List ℕ) → list_all (term_has t) vs ≡ true → (v : ℕ) → is_in v vs ≡ true → list_any (has_var v) t.factors ≡ true
has_all t [] h v e = absurd (cc)
has_all t (w ∷ vs) h v e = by_case (or_cases (eqb v w) (is_in v vs) e) (has_all t vs (and_parts (term_has t w) (list_all (term_has t) vs) h).1 v)
  where
    by_case : (eqb v w ≡ true) ⊎ (is_in v vs ≡ true) → (is_in v vs ≡ true → list_any (has_var v) t.factors ≡ true) → list_any (has_var v) t.factors ≡ true
    by_case (inl k) r =
        ap (λ (x : ℕ). list_any (has_var x) t.factors) (eqb-true v w k) ∙ (and_parts (term_has t w) (list_all (term_has t) vs) h).0
    by_case (inr k) r = r k

-- each term has the variables of the left, in the order of the result's levels
pub term-left : (p : Program) (t : Term) → accepted p ≡ true → term_fits p.tensors p.var_sizes p.left t ≡ true → Kept p t p.left p.result
term-left p t h k =
    let r = accepted-result p h in
    kept-at p t p.left p.result r.0 r.1
    (has_all t p.left (term-parts p.tensors p.var_sizes p.left t k).complete)

-- the tree of a term has the sizes of the result's levels
pub term-sizes : (p : Program) (es : List Entries) (first : Bool) (t : Term) → accepted p ≡ true → term_fits p.tensors p.var_sizes p.left t ≡ true
    → reduced_sizes (term_data p es first t) (free_count (loop_list p t)) ≡ result_sizes p
term-sizes p es first t h k =
    let kept = term-left p t h k in
    ap kept_sizes (kept-none (free_count (loop_list p t)) (loop_list p t) (omega arith))
    ∙ kept-sizes-map (slice_index p.var_sizes) (λ v. is_in v p.left) (loops_of p t)
    ∙ ap (map (slice_index p.var_sizes)) kept.loops
    ∙ kept.sizes
