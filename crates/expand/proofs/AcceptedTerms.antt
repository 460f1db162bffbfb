-- The terms of an accepted program are the expansion of its top-level terms, which fit together with its left side.
use Rattle.std.specs.Prelude.{◌≡◌, ◌<◌, ℕ, zero, suc, ◌+◌, Bool, true, false, ◌&&◌, List, [], ◌∷◌, length, slice_index, ◌==◌, eqb, nat_le, refl}
use Rattle.std.specs.List.{list_all, list_any, filter, range_with_len}
use mathlib.Core.List.{map}
use Rattle.std.proofs.Common.{◌⊎◌, inl, inr, arith, sym, ◌∙◌, ap}
use Rattle.std.proofs.lemmas.Bool.{and_parts, or_cases, or_left, or_right, eq-eqb, eqb-true, lt-ltb, ltb-true}
use Rattle.std.proofs.lemmas.List.{length-map}
use Rattle.sam_base.specs.Each.{Each}
use Rattle.sam_model.specs.declared.tensors.Tensor.{Tensor}
use Rattle.sam_model.specs.declared.program.Factor.{Factor}
use Rattle.sam_model.specs.declared.program.Factor.TheVariants.{Access, Literal}
use Rattle.sam_model.specs.declared.program.Term.{Term}
use Rattle.sam_model.specs.declared.program.Program.{Program}
use Rattle.sam_model.specs.Trees.{TopTree}
use Rattle.sam_model.specs.Lists.{items_at, is_in, tuples, same_list}
use Rattle.sam_model.specs.Denote.{has_var, den, pat}
use Rattle.sam_model.specs.Accepted.{distinct, is_order, is_dimension, is_well_formed, is_operand, access_fits, tensor_passes, factor_fits, term_has, terms_have, term_fits, stands}
use Rattle.sam_model.specs.Expressions.{expanded_tops}
use Rattle.sam_model.specs.Scopes.{are_in_range, used_vars, bound_vars, free_vars, are_apart, implied_of, top_fits}
use Rattle.sam_model.specs.Program.{accepted}
use Rattle.sam_model.specs.Statement.{denoted_at, found_at}
use Rattle.sam_model.proofs.AcceptedPrograms.{FitParts, well-formed, access-parts, term-parts}
use Rattle.sam_model.proofs.AcceptedPrograms.{accepted-parts, result-formed, terms-expanded, each-top-fits}
use Rattle.sam_model.proofs.Lists.{not-true, filter-ext-each, map-ext-each, Each-filter, Each-weaker}
use Rattle.sam_model.proofs.Orders.{same_list-true}
use Rattle.sam_model.proofs.Tuples.{tuples-long}
use Rattle.expand.specs.Counting.{is_long, have_long}
use Rattle.expand.specs.Meaning.{FitTogether}
use Rattle.expand.specs.Laws.{TermsDenote, TermsTell, ProductsStay}
use Rattle.expand.proofs.Kept.{keeps-meaning}
use Rattle.expand.proofs.Products.{products-kept}

-- ---- what isn't accepted

-- a program whose terms are not the expansion
other_terms : (p : Program) → (accepted p ≡ true → p.terms ≡ expanded_tops p.var_sizes p.tops → ⊥) → accepted p ≡ false
other_terms p other = not-true (accepted p) (λ h. absurd (other h (terms-expanded p h)))

pub many-refused : (p : Program) → 16 < length (expanded_tops p.var_sizes p.tops) → accepted p ≡ false
many-refused p many =
    other_terms p (λ h e.
    let same = ap length e in let short = (accepted-parts p h).short in omega (arith, same, short, many))

none_long : (p : Program) (ts : List Term) → list_all (term_fits p.tensors p.var_sizes p.left) ts ≡ true → have_long ts ≡ false
none_long p [] h = refl
none_long p (t ∷ ts) h =
    let both = and_parts (term_fits p.tensors p.var_sizes p.left t) (list_all (term_fits p.tensors p.var_sizes p.left) ts) h in
    let few = (term-parts p.tensors p.var_sizes p.left t both.0).few in
    let short : is_long t ≡ false = not-true (is_long t) (λ e. let l = ltb-true 8 (length t.factors) e in absurd (omega (arith, few, l))) in
    rw short (none_long p ts both.1)

pub long-refused : (p : Program) → have_long (expanded_tops p.var_sizes p.tops) ≡ true → accepted p ≡ false
long-refused p long =
    other_terms p (λ h e.
    let short = none_long p p.terms (accepted-parts p h).terms in
    let both : true ≡ false = sym long ∙ ap have_long (sym e) ∙ short in absurd (cc))

-- ---- the sizes

-- the size at a variable of an access that fits is that of a dimension
sized : (sizes vars dims : List ℕ) → map (slice_index sizes) vars ≡ dims → list_all is_dimension dims ≡ true → (v : ℕ) → is_in v vars ≡ true
    → nat_le 1 (slice_index sizes v) ≡ true
sized sizes vars dims e d v h = each vars v (ap (list_all is_dimension) e ∙ d) h
  where
    each : (vars : List ℕ) (v : ℕ) → list_all is_dimension (map (slice_index sizes) vars) ≡ true → is_in v vars ≡ true → nat_le 1 (slice_index sizes v) ≡ true
    each [] v d h = absurd (cc)
    each (w ∷ vars) v d h =
        let both = and_parts (is_dimension (slice_index sizes w)) (list_all is_dimension (map (slice_index sizes) vars)) d in
        by_case w v (and_parts (nat_le 1 (slice_index sizes w)) _ both.0).0 (or_cases (eqb v w) (is_in v vars) h) (λ k. each vars v both.1 k)
      where
        by_case : (w v : ℕ) → nat_le 1 (slice_index sizes w) ≡ true → (eqb v w ≡ true) ⊎ (is_in v vars ≡ true)
            → (is_in v vars ≡ true → nat_le 1 (slice_index sizes v) ≡ true) → nat_le 1 (slice_index sizes v) ≡ true
        by_case w v d (inl k) rest = ap (λ u. nat_le 1 (slice_index sizes u)) (eqb-true v w k) ∙ d
        by_case w v d (inr k) rest = rest k

access_sized : (sizes vars : List ℕ) (t : Tensor) → access_fits sizes vars t ≡ true → is_well_formed t ≡ true → (v : ℕ) → is_in v vars ≡ true
    → nat_le 1 (slice_index sizes v) ≡ true
access_sized sizes vars t fits formed v h = sized sizes vars t.dims (access-parts sizes vars t fits).variables.dims_are (well-formed t formed).dims v h

passed_sized : (sizes vars : List ℕ) (ts : List Tensor) (n : ℕ) → tensor_passes (access_fits sizes vars) ts n ≡ true → list_all is_operand ts ≡ true
    → (v : ℕ) → is_in v vars ≡ true → nat_le 1 (slice_index sizes v) ≡ true
passed_sized sizes vars [] n h o v k = absurd (cc)
passed_sized sizes vars (t ∷ ts) zero h o v k =
    access_sized sizes vars t h (and_parts (nat_le 1 (length t.dims)) (is_well_formed t) (and_parts (is_operand t) (list_all is_operand ts) o).0).1 v k
passed_sized sizes vars (t ∷ ts) (suc n) h o v k = passed_sized sizes vars ts n h (and_parts (is_operand t) (list_all is_operand ts) o).1 v k

either : {A B C : Type 0} → A ⊎ B → (A → C) → (B → C) → C
either (inl a) f g = f a
either (inr b) f g = g b

module _ (sizes left : List ℕ) (tensors : List Tensor) (operands : list_all is_operand tensors ≡ true) (v : ℕ) where
  abbrev is_sized : Type 0
  is_sized = nat_le 1 (slice_index sizes v) ≡ true

  factor_sized : (f : Factor) → factor_fits tensors sizes f ≡ true → has_var v f ≡ true → is_sized
  factor_sized (Access n vars) h k = passed_sized sizes vars tensors n h operands v k
  factor_sized (Literal n) h k = absurd (cc)

  factors_sized : (fs : List Factor) → list_all (factor_fits tensors sizes) fs ≡ true → list_any (has_var v) fs ≡ true → is_sized
  factors_sized [] h k = absurd (cc)
  factors_sized (f ∷ fs) h k =
      let both = and_parts (factor_fits tensors sizes f) (list_all (factor_fits tensors sizes) fs) h in
      either (or_cases (has_var v f) (list_any (has_var v) fs) k) (factor_sized f both.0) (factors_sized fs both.1)

  terms_sized : (ts : List Term) → list_all (term_fits tensors sizes left) ts ≡ true → terms_have ts v ≡ true → is_sized
  terms_sized [] h k = absurd (cc)
  terms_sized (t ∷ ts) h k =
      let both = and_parts (term_fits tensors sizes left t) (list_all (term_fits tensors sizes left) ts) h in
      either (or_cases (term_has t v) (terms_have ts v) k) (factors_sized t.factors (term-parts tensors sizes left t both.0).fit) (terms_sized ts both.1)

-- what holds at each place holds of the list
all_places : (test : ℕ → Bool) (xs : List ℕ) → ((i : ℕ) → i < length xs → test (slice_index xs i) ≡ true) → list_all test xs ≡ true
all_places test [] h = refl
all_places test (x ∷ xs) h = rw (h 0 (omega arith)) (all_places test xs (λ i l. h (suc i) (omega (arith, l))))

range_at : (test : ℕ → Bool) (a n i : ℕ) → list_all test (range_with_len a n) ≡ true → i < n → test (a + i) ≡ true
range_at test a zero i h l = absurd (omega (arith, l))
range_at test a (suc n) zero h l = let same : a + 0 ≡ a = omega arith in rw same ((and_parts (test a) (list_all test (range_with_len (a + 1) n)) h).0)
range_at test a (suc n) (suc i) h l =
    let same : a + suc i ≡ a + 1 + i = omega arith in
    rw same (range_at test (a + 1) n i (and_parts (test a) (list_all test (range_with_len (a + 1) n)) h).1 (omega (arith, l)))

all_sized : (p : Program) → accepted p ≡ true → list_all (nat_le 1) p.var_sizes ≡ true
all_sized p e = all_places (nat_le 1) p.var_sizes (λ v l. by_case v (or_cases (is_in v p.left) (terms_have p.terms v) (stood v l)))
  where
    parts : FitParts p
    parts = accepted-parts p e

    stood : (v : ℕ) → v < length p.var_sizes → stands p.left p.terms v ≡ true
    stood v l = let same : 0 + v ≡ v = omega arith in rw (sym same) (range_at (stands p.left p.terms) 0 (length p.var_sizes) v parts.stood l)

    by_case : (v : ℕ) → (is_in v p.left ≡ true) ⊎ (terms_have p.terms v ≡ true) → nat_le 1 (slice_index p.var_sizes v) ≡ true
    by_case v (inl h) = access_sized p.var_sizes p.left p.result parts.left (result-formed p e) v h
    by_case v (inr h) = terms_sized p.var_sizes p.left p.tensors parts.operands v p.terms parts.terms h

-- ---- the law

all_complete : (tensors : List Tensor) (sizes left : List ℕ) (ts : List Term) → list_all (term_fits tensors sizes left) ts ≡ true
    → list_all (λ t. list_all (term_has t) left) ts ≡ true
all_complete tensors sizes left [] h = refl
all_complete tensors sizes left (t ∷ ts) h =
    let both = and_parts (term_fits tensors sizes left t) (list_all (term_fits tensors sizes left) ts) h in
    rw (term-parts tensors sizes left t both.0).complete (all_complete tensors sizes left ts both.1)

all_in_range : (count : ℕ) (vars : List ℕ) → ((v : ℕ) → is_in v vars ≡ true → v < count) → are_in_range count vars ≡ true
all_in_range count [] h = refl
all_in_range count (v ∷ vars) h =
    rw (lt-ltb v count (h v (or_left (eqb v v) (is_in v vars) (eq-eqb v v refl)))) (all_in_range count vars (λ w k. h w (or_right (eqb w v) (is_in w vars) k)))

fit-together : (p : Program) → accepted p ≡ true → FitTogether p p.tops
fit-together p e =
    let parts = accepted-parts p e in
    let left = access-parts p.var_sizes p.left p.result parts.left in
    let formed = well-formed p.result (result-formed p e) in
    record {
      sizes = all_sized p e;
      order = ap (λ n. is_order n p.result.order) left.variables.count ∙ formed.order;
      left_in_range = all_in_range (length p.var_sizes) p.left left.variables.in_range;
      left_ascends = left.ascends;
      each_fits = each-top-fits p e;
      complete = all_complete p.tensors p.var_sizes p.left p.terms parts.terms;
    }

pub terms-denote : TermsDenote
terms-denote p es x e long = keeps-meaning p.var_sizes p.tops p es x refl (terms-expanded p e) (fit-together p e) long

pub terms-tell : TermsTell
terms-tell p es e =
    map-ext-each Long (λ x. (x, den p es x)) (λ x. (x, denoted_at p es x)) (λ x l. ap (λ (n : ℕ). (x, n)) (terms-denote p es x e l).0)
    (filter (pat p es) all) (Each-filter Long (pat p es) all each_long)
    ∙ ap (map (λ x. (x, denoted_at p es x))) (filter-ext-each Long (pat p es) (found_at p es) (λ x l. (terms-denote p es x e l).1) all each_long)
  where
    all : List (List ℕ)
    all = tuples (items_at p.result.dims p.result.order)

    Long : List ℕ → Type 0
    Long x = length x ≡ length p.left

    same : length (items_at p.result.dims p.result.order) ≡ length p.left
    same =
        let left = access-parts p.var_sizes p.left p.result (accepted-parts p e).left in
        let order = and_parts (length p.result.order == length p.result.dims) _ (well-formed p.result (result-formed p e)).order in
        length-map p.result.order (slice_index p.result.dims) ∙ eqb-true _ _ order.0 ∙ sym left.variables.count

    each_long : Each Long all
    each_long = Each-weaker (λ x. length x ≡ length (items_at p.result.dims p.result.order)) Long (λ x l. l ∙ same) all (tuples-long (items_at p.result.dims p.result.order))

-- ---- products

all_implied : (count : ℕ) (left : List ℕ) (tops : List TopTree) → list_all (top_fits count left) tops ≡ true
    → Each (λ t. t.implied ≡ implied_of count left t.body) tops
all_implied count left [] h = tt
all_implied count left (t ∷ tops) h =
    let both = and_parts (top_fits count left t) (list_all (top_fits count left) tops) h in (
      same_list-true t.implied (implied_of count left t.body) (last_of (are_in_range count (used_vars t.body)) (are_in_range count (bound_vars t.body))
          (distinct (bound_vars t.body)) (are_apart (bound_vars t.body) left) (are_apart (bound_vars t.body) (free_vars t.body))
          (same_list t.implied (implied_of count left t.body)) both.0),
      all_implied count left tops both.1,
    )
  where
    last_of : (a b c d e f : Bool) → (a && (b && (c && (d && (e && f))))) ≡ true → f ≡ true
    last_of a b c d e f h = (and_parts e f (and_parts d _ (and_parts c _ (and_parts b _ (and_parts a _ h).1).1).1).1).1

pub products-stay : ProductsStay
products-stay p e h = terms-expanded p e ∙ products-kept p.var_sizes p.left p.tops h (all_implied (length p.var_sizes) p.left p.tops (each-top-fits p e))
