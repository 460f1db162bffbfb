-- A file that passes the checks makes a statement that fits.
use Rattle.std.proofs.Common.{◌≡◌, ℕ, ◌-◌, ◌^◌, ◌<◌, ◌≤◌, min, List, [], ◌∷◌, length, Bool, true, false, not, ◌&&◌, ◌==◌, cond, Option}
use Rattle.std.proofs.Common.{Some, None, Ok, refl, sym, subst, ◌∙◌, arith, ◌⊎◌, inl, inr, nat_lt}
use Rattle.std.specs.List.{list_all, list_any}
use Rattle.std.specs.Str.{bytes_eq}
use Rattle.std.proofs.lemmas.Bool.{and_parts, and_from, or_parts, or_left, or_right, or_cases, not-false, eqb-true, eq-eqb, ltb-false}
use Rattle.std.proofs.lemmas.Bool.{le-leb, lt-ltb, false≢true}
use Rattle.std.proofs.lemmas.List.{length-map}
use mathlib.Core.List.{map}
use Rattle.sam_base.specs.declared.faults.ProgramKind.{ProgramKind}
use Rattle.sam_base.specs.declared.faults.ProgramKind.TheVariants.{UnusedSum, ArityMismatch, RepeatedVariable, DimMismatch}
use Rattle.sam_base.specs.declared.faults.ProgramKind.TheVariants.{MissingResultVariable, NoAccess, ReducerTooDeep}
use Rattle.sam_model.specs.declared.tensors.Tensor.{Tensor}
use Rattle.sam_model.specs.Lists.{is_in, items_at}
use Rattle.sam_model.specs.declared.program.Factor.{Factor}
use Rattle.sam_model.specs.declared.program.Term.{Term}
use Rattle.sam_model.specs.Denote.{vars_of, has_var}
use Rattle.sam_model.specs.Accepted.{access_fits, ascending, distinct_names, factor_fits, factor_reduces, is_access, is_named, reduces}
use Rattle.sam_model.specs.Accepted.{stands, statement_fits, tensor_passes, term_fits, term_has}
use Rattle.sam_model.specs.Scopes.{are_in_range, top_fits}
use Rattle.sam_model.specs.Program.{tops_fit}
use Rattle.sam_model.proofs.EqualTerms.{same_terms-self}
use Rattle.expand.specs.Counting.{is_long, have_long}
use Rattle.notation.specs.declared.statement.AccessText.{AccessText}
use Rattle.program_file.specs.declared.accesses.Variable.{Variable}
use Rattle.program_file.specs.declared.files.File.{File}
use Rattle.program_file.specs.Accesses.{is_known, repeated_variable, mismatched, with_variables, tensor_named, named_kind, access_fault}
use Rattle.program_file.specs.Accesses.{unless, bind_access, bind_left, bind_named, bind_right, bind_accesses}
use Rattle.program_file.specs.Numbers.{are_loops, place_of, places, name_at, size_of, tensor_place, number_of}
use Rattle.program_file.specs.Statements.{right_accesses, right_sums}
use Rattle.program_file.specs.Checks.{first_of, unused, tops_bind_wrong, access_discordant, named_discordant, accesses_discordant}
use Rattle.program_file.specs.Checks.{has_named, missing, term_fault, terms_fault, vars_deep, factors_deep, terms_deep}
use Rattle.program_file.specs.Programs.{left_of, file_tops, sizes_of, terms_of, program_of, bound_of, sums_fault, order_fault}
use Rattle.program_file.proofs.DeclaredLemmas.{then-ok, if-ok, unless-ok, no_refusal}
use Rattle.program_file.proofs.BoundLemmas.{sized, joined-sized, joined-keeps, joined-from, repeated-distinct, sized-more, named-in}
use Rattle.program_file.proofs.BoundLemmas.{distinct-places, places-fit, sized-named, named-passes, place-item, own-place, all-at}
use Rattle.program_file.proofs.BoundLemmas.{all-range, known-named}
use Rattle.program_file.proofs.StatementLemmas.{numbered_access, terms-pass, terms-have, some-terms, tops-fit}
use Rattle.program_file.proofs.SumFits.{no-fault-right}

-- more is known, and what was known stays
abbrev pub Extends : List Variable → List Variable → Type 0
Extends vars more = (n : List ℕ) → is_known n vars ≡ true → (is_known n more ≡ true) × (size_of more n ≡ size_of vars n)

pub extends-twice : (a b c : List Variable) → Extends a b → Extends b c → Extends a c
extends-twice a b c f g n h = let p = f n h in let q = g n p.0 in (q.0, q.1 ∙ p.1)

pub record BoundAccess (tensors : List Tensor) (vars : List Variable) (a : AccessText) : Type 0 where
  pub tensor : Tensor
  pub named : tensor_named a.name tensors ≡ Some tensor
  pub sizes : sized vars a.vars tensor.dims ≡ true
  pub apart : distinct_names a.vars ≡ true

abbrev pub AccessesOk : List Tensor → List Variable → List AccessText → Type 0
AccessesOk tensors vars [] = Unit {0}
AccessesOk tensors vars (a ∷ accesses) = BoundAccess tensors vars a × AccessesOk tensors vars accesses

access-more : (tensors : List Tensor) (vars more : List Variable) (a : AccessText) → Extends vars more → BoundAccess tensors vars a → BoundAccess tensors more a
access-more tensors vars more a f h = record { tensor = h.tensor; named = h.named; sizes = sized-more vars more f a.vars h.tensor.dims h.sizes; apart = h.apart }

accesses-more : (tensors : List Tensor) (vars more : List Variable) → Extends vars more → (accesses : List AccessText) → AccessesOk tensors vars accesses → AccessesOk tensors more accesses
accesses-more tensors vars more f [] h = tt
accesses-more tensors vars more f (a ∷ accesses) h = (access-more tensors vars more a f h.0, accesses-more tensors vars more f accesses h.1)

-- what an access binds
record Binds (vars more : List Variable) (a : AccessText) (t : Tensor) : Type 0 where
  extends : Extends vars more
  sizes : sized more a.vars t.dims ≡ true
  apart : distinct_names a.vars ≡ true
  from : (m : List ℕ) → is_known m more ≡ true → (is_known m vars ≡ true) ⊎ (is_named m a.vars ≡ true)

kind-none : (kind : List ℕ → ProgramKind) (o : Option (List ℕ)) (next : Option ProgramKind) → named_kind kind o next ≡ None → (o ≡ None) × (next ≡ None)
kind-none kind None next e = (refl, e)
kind-none kind (Some n) next e = absurd cc

none-if : {A : Type 0} (b : Bool) (x : A) (o : Option A) → cond b (Some x) o ≡ None → (b ≡ false) × (o ≡ None)
none-if true x o e = absurd cc
none-if false x o e = (refl, e)

unless-none : {Y : Type 0} (line : ℕ) (o : Option ProgramKind) (x z : Y) → unless line o x ≡ Ok z → o ≡ None
unless-none line None x z e = refl
unless-none line (Some kind) x z e = absurd cc

access-binds : (line : ℕ) (vars more : List Variable) (a : AccessText) (t : Tensor) → bind_access line vars a t ≡ Ok more → Binds vars more a t
access-binds line vars more a t e =
    let none : access_fault vars a t ≡ None = unless-none line (access_fault vars a t) (with_variables vars a.vars t.dims) more e in
    let same : with_variables vars a.vars t.dims ≡ more = unless-ok line (access_fault vars a t) (with_variables vars a.vars t.dims) more e in
    let p = none-if (not (length a.vars == length t.dims)) (ArityMismatch a.name) _ none in
    let q = kind-none RepeatedVariable (repeated_variable a.vars) _ p.1 in
    let r = kind-none DimMismatch (mismatched vars a.vars t.dims) None q.1 in
    let B : List Variable → Type 0 = λ vs. Binds vars vs a t in
    subst B same (record {
      extends = λ n h. joined-keeps a.vars t.dims n vars h;
      sizes = joined-sized a.vars t.dims vars (eqb-true _ _ (not-false _ p.0)) q.0 r.0;
      apart = repeated-distinct a.vars q.0;
      from = λ m h. joined-from a.vars t.dims m vars h;
    })

record BindsRight (tensors : List Tensor) (vars more : List Variable) (a : AccessText) : Type 0 where
  extends : Extends vars more
  ok : BoundAccess tensors more a
  from : (m : List ℕ) → is_known m more ≡ true → (is_known m vars ≡ true) ⊎ (is_named m a.vars ≡ true)

named-binds : (line : ℕ) (scalars : List (List ℕ)) (tensors : List Tensor) (vars more : List Variable) (a : AccessText) (o : Option Tensor) → tensor_named a.name tensors ≡ o → bind_named line scalars vars a o ≡ Ok more → BindsRight tensors vars more a
named-binds line scalars tensors vars more a None h e = absurd (no_refusal _ _ more refl e)
named-binds line scalars tensors vars more a (Some t) h e =
    let b = access-binds line vars more a t e in
    record { extends = b.extends; ok = record { tensor = t; named = h; sizes = b.sizes; apart = b.apart }; from = b.from }

right-binds : (line : ℕ) (tensors : List Tensor) (scalars : List (List ℕ)) (result : Tensor) (vars more : List Variable) (a : AccessText) → bind_right line tensors scalars result vars a ≡ Ok more → BindsRight tensors vars more a
right-binds line tensors scalars result vars more a e = elim (if-ok (bytes_eq a.name result.name) _ _ more e) [
  | inl h ↦ absurd (no_refusal _ _ more refl h.1)
  | inr h ↦ named-binds line scalars tensors vars more a (tensor_named a.name tensors) refl h.1
]

record BindsAccesses (tensors : List Tensor) (vars more : List Variable) (accesses : List AccessText) : Type 0 where
  extends : Extends vars more
  ok : AccessesOk tensors more accesses
  from : (m : List ℕ) → is_known m more ≡ true → (is_known m vars ≡ true) ⊎ (list_any (λ a. is_named m a.vars) accesses ≡ true)

accesses-bind : (line : ℕ) (tensors : List Tensor) (scalars : List (List ℕ)) (result : Tensor) (accesses : List AccessText) (vars more : List Variable)
    → bind_accesses line tensors scalars result vars accesses ≡ Ok more → BindsAccesses tensors vars more accesses
accesses-bind line tensors scalars result [] vars more e =
    let same : vars ≡ more = cc in
    let B : List Variable → Type 0 = λ vs. BindsAccesses tensors vars vs [] in
    subst B same (record { extends = λ n h. (h, refl); ok = tt; from = λ m h. inl h })
accesses-bind line tensors scalars result (a ∷ accesses) vars more e =
    let s = then-ok (bind_right line tensors scalars result vars a) (λ vs. bind_accesses line tensors scalars result vs accesses) more e in
    let b = right-binds line tensors scalars result vars s.value a s.was in
    let r = accesses-bind line tensors scalars result accesses s.value more s.next in
    record {
      extends = extends-twice vars s.value more b.extends r.extends;
      ok = (access-more tensors s.value more a r.extends b.ok, r.ok);
      from = λ m h. elim (r.from m h) [
        | inl k ↦ elim (b.from m k) [ inl j ↦ inl j | inr j ↦ inr (or_left _ _ j) ]
        | inr k ↦ inr (or_right (is_named m a.vars) _ k)
      ];
    }

-- what the accesses of a file bind
pub record BindsFile (f : File) (vars : List Variable) : Type 0 where
  pub sizes : sized vars f.statement.left.vars f.result.dims ≡ true
  pub apart : distinct_names f.statement.left.vars ≡ true
  pub accesses : AccessesOk f.tensors vars (right_accesses f.statement)
  pub from : (m : List ℕ) → is_known m vars ≡ true
      → (is_named m f.statement.left.vars ≡ true) ⊎ (list_any (λ a. is_named m a.vars) (right_accesses f.statement) ≡ true)

left-binds : (line : ℕ) (result : Tensor) (a : AccessText) (vars : List Variable) → bind_left line result a ≡ Ok vars → Binds [] vars a result
left-binds line result a vars e = elim (if-ok (bytes_eq a.name result.name) _ _ vars e) [
  | inl h ↦ access-binds line [] vars a result h.1
  | inr h ↦ absurd (no_refusal _ _ vars refl h.1)
]

pub file-binds : (f : File) (vars : List Variable) → bound_of f ≡ Ok vars → BindsFile f vars
file-binds f vars e =
    let right = right_accesses f.statement in
    let s = then-ok (bind_left f.statement_line f.result f.statement.left) (λ vs. bind_accesses f.statement_line f.tensors f.scalars f.result vs right) vars e in
    let l = left-binds f.statement_line f.result f.statement.left s.value s.was in
    let r = accesses-bind f.statement_line f.tensors f.scalars f.result right s.value vars s.next in
    record {
      sizes = sized-more s.value vars r.extends f.statement.left.vars f.result.dims l.sizes;
      apart = l.apart;
      accesses = r.ok;
      from = λ m h. elim (r.from m h) [
        | inl k ↦ elim (l.from m k) [ inl j ↦ absurd (false≢true j) | inr j ↦ inl j ]
        | inr k ↦ inr k
      ];
    }

-- ---- the terms

-- what stands in an access of the text stands in one by numbers
has-there : (tensors : List Tensor) (names : List (List ℕ)) (v : List ℕ) (accesses : List AccessText) → list_any (λ a. is_named v a.vars) accesses ≡ true
    → list_any (λ a. has_var (place_of names v) (numbered_access tensors names a)) accesses ≡ true
has-there tensors names v [] e = absurd (false≢true e)
has-there tensors names v (a ∷ accesses) e = elim (or_cases (is_named v a.vars) _ e) [
  | inl h ↦ or_left _ _ (named-in names v a.vars h)
  | inr h ↦ or_right (is_in (place_of names v) (places names a.vars)) _ (has-there tensors names v accesses h)
]

-- each variable of the left stands in the term
left-step : {A : Type 0} (b : Bool) (v : A) (o : Option A) → cond b o (Some v) ≡ None → (b ≡ true) × (o ≡ None)
left-step true v o e = (refl, e)
left-step false v o e = absurd cc

has-of : (names : List (List ℕ)) (t : Term) (v : List ℕ) → has_named names t v ≡ true → term_has t (place_of names v) ≡ true
unfolding has_named
has-of names t v e = e

left-there : (names : List (List ℕ)) (t : Term) (left : List (List ℕ)) → missing names t left ≡ None → list_all (term_has t) (places names left) ≡ true
left-there names t [] e = refl
left-there names t (v ∷ vs) e =
    let p = left-step (has_named names t v) v (missing names t vs) e in
    and_from _ _ (has-of names t v p.0) (left-there names t vs p.1)

-- sums that aren't too deep
vars-reduce : (names : List (List ℕ)) (left vs : List ℕ) → vars_deep names left vs ≡ None → list_all (reduces left) vs ≡ true
vars-reduce names left [] e = refl
vars-reduce names left (v ∷ vs) e =
    let p = left-step (reduces left v) (ReducerTooDeep (name_at names v)) (vars_deep names left vs) e in
    and_from _ _ p.0 (vars-reduce names left vs p.1)

first-none : (a b : Option ProgramKind) → first_of a b ≡ None → (a ≡ None) × (b ≡ None)
first-none None b e = (refl, e)
first-none (Some kind) b e = absurd cc

factors-reduce : (names : List (List ℕ)) (left : List ℕ) (fs : List Factor) → factors_deep names left fs ≡ None → list_all (factor_reduces left) fs ≡ true
factors-reduce names left [] e = refl
factors-reduce names left (x ∷ fs) e =
    let p = first-none (vars_deep names left (vars_of x)) (factors_deep names left fs) e in
    and_from _ _ (vars-reduce names left (vars_of x) p.0) (factors-reduce names left fs p.1)

-- an access in loop order fits
in-order : (b : Bool) (x : ProgramKind) → cond b None (Some x) ≡ None → b ≡ true
in-order true x e = refl
in-order false x e = absurd cc

access-fits : (loops : List (List ℕ)) (vars : List Variable) → ((n : List ℕ) → is_known n vars ≡ true → is_named n loops ≡ true) → (a : AccessText) (t : Tensor) → sized vars a.vars t.dims ≡ true → distinct_names a.vars ≡ true → access_discordant loops a t ≡ None → access_fits (map (size_of vars) loops) (places loops a.vars) t ≡ true
access-fits loops vars known a t s d e =
    and_from _ _ (places-fit vars loops known a.vars t.dims s) (and_from _ _ (distinct-places loops a.vars (sized-named vars loops known a.vars t.dims s) d) (in-order (ascending (items_at (places loops a.vars) t.order)) _ e))

least : (a b : ℕ) → a < b → min a b ≡ a
least a b h = omega arith

number-is : (tensors : List Tensor) (name : List ℕ) → length tensors < 2 ^ 32 → tensor_place tensors name < length tensors → tensor_place tensors name ≡ number_of tensors name
number-is tensors name few h = sym (least (tensor_place tensors name) (2 ^ 32 - 1) (omega arith))

factor-fits : (tensors : List Tensor) → length tensors < 2 ^ 32 → (loops : List (List ℕ)) (vars : List Variable) → ((n : List ℕ) → is_known n vars ≡ true → is_named n loops ≡ true) → (a : AccessText) → BoundAccess tensors vars a
    → named_discordant loops a (tensor_named a.name tensors) ≡ None → factor_fits tensors (map (size_of vars) loops) (numbered_access tensors loops a) ≡ true
factor-fits tensors few loops vars known a b e =
    let test : Tensor → Bool = access_fits (map (size_of vars) loops) (places loops a.vars) in
    let p = named-passes test a.name tensors b.tensor b.named in
    let here : access_discordant loops a b.tensor ≡ None = subst (λ o. named_discordant loops a o ≡ None) b.named e in
    subst (λ n. tensor_passes test tensors n ≡ true) (number-is tensors a.name few p.0) (p.1 ∙ access-fits loops vars known a b.tensor b.sizes b.apart here)

accesses-fit : (tensors : List Tensor) → length tensors < 2 ^ 32 → (loops : List (List ℕ)) (vars : List Variable) → ((n : List ℕ) → is_known n vars ≡ true → is_named n loops ≡ true) → (accesses : List AccessText) → AccessesOk tensors vars accesses
    → accesses_discordant tensors loops accesses ≡ None → list_all (λ a. factor_fits tensors (map (size_of vars) loops) (numbered_access tensors loops a)) accesses ≡ true
accesses-fit tensors few loops vars known [] h e = refl
accesses-fit tensors few loops vars known (a ∷ accesses) h e =
    let p = first-none (named_discordant loops a (tensor_named a.name tensors)) (accesses_discordant tensors loops accesses) e in
    and_from _ _ (factor-fits tensors few loops vars known a h.0 p.0) (accesses-fit tensors few loops vars known accesses h.1 p.1)

fault-none : (b : Bool) (o : Option ProgramKind) → cond b o (Some NoAccess) ≡ None → (b ≡ true) × (o ≡ None)
fault-none true o e = (refl, e)
fault-none false o e = absurd cc

some-factor : (fs : List Factor) → list_any is_access fs ≡ true → 1 ≤ length fs
some-factor [] e = absurd (false≢true e)
some-factor (x ∷ fs) e = omega arith

-- terms that pass the checks fit
terms-fit : (tensors : List Tensor) (sizes : List ℕ) (names left : List (List ℕ)) (ts : List Term) → have_long ts ≡ false → list_all (λ t. list_all (factor_fits tensors sizes) t.factors) ts ≡ true
    → terms_fault names left ts ≡ None → terms_deep names (places names left) ts ≡ None → list_all (term_fits tensors sizes (places names left)) ts ≡ true
terms-fit tensors sizes names left [] short fit fault deep = refl
terms-fit tensors sizes names left (t ∷ ts) short fit fault deep =
    let s = or_parts (is_long t) (have_long ts) short in
    let p = and_parts (list_all (factor_fits tensors sizes) t.factors) _ fit in
    let q = first-none (term_fault names left t) (terms_fault names left ts) fault in
    let r = first-none (factors_deep names (places names left) t.factors) (terms_deep names (places names left) ts) deep in
    let a = fault-none (list_any is_access t.factors) _ q.0 in
    let m = kind-none MissingResultVariable (missing names t left) None a.1 in
    and_from _ _
    (and_from _ _ (le-leb 1 (length t.factors) (some-factor t.factors a.0))
    (and_from _ _ (le-leb (length t.factors) 8 (ltb-false 8 (length t.factors) s.0))
    (and_from _ _ p.0
    (and_from _ _ a.0
    (and_from _ _ (left-there names t left m.0)
    (factors-reduce names (places names left) t.factors r.0))))))
    (terms-fit tensors sizes names left ts s.1 p.1 q.1 r.1)

-- what holds of a file that passes the checks behind those of its accesses
pub record Checked (f : File) (vars : List Variable) : Type 0 where
  pub loops : are_loops vars f.loops ≡ true
  pub sums : sums_fault f.loops f vars (left_of f.loops f) (file_tops f.loops f) ≡ None
  pub few : length (terms_of f.loops f vars) ≤ 16
  pub short : have_long (terms_of f.loops f vars) ≡ false
  pub fault : terms_fault f.loops f.statement.left.vars (terms_of f.loops f vars) ≡ None
  pub most : nat_lt 8 (length vars) ≡ false
  pub order : order_fault f (terms_of f.loops f vars) ≡ None

-- each loop stands in the statement
loop-stands : (f : File) (vars : List Variable) → BindsFile f vars → list_all (λ n. is_known n vars) f.loops ≡ true → distinct_names f.loops ≡ true → (k : ℕ) → k < length f.loops → stands (left_of f.loops f) (terms_of f.loops f vars) k ≡ true
loop-stands f vars b known apart k h =
    let name = name_at f.loops k in
    let place : place_of f.loops name ≡ k = own-place f.loops k apart h in
    let S : ℕ → Type 0 = λ n. stands (left_of f.loops f) (terms_of f.loops f vars) n ≡ true in
    subst S place (elim (b.from name (all-at (λ n. is_known n vars) f.loops k known h)) [
      | inl e ↦ or_left _ _ (named-in f.loops name f.statement.left.vars e)
      | inr e ↦ or_right (is_in (place_of f.loops name) (left_of f.loops f)) _
          (terms-have f.loops f vars (place_of f.loops name) ∙ has-there f.tensors f.loops name (right_accesses f.statement) e)
    ])

pub statement-fits : (f : File) (vars : List Variable) → length f.tensors < 2 ^ 32
    → 0 < length f.statement.tops → BindsFile f vars → Checked f vars
    → statement_fits (program_of f vars) ≡ true
statement-fits f vars few fit b c =
    let p = and_parts _ _ c.loops in
    let q = and_parts _ _ p.1 in
    let r = and_parts _ _ q.1 in
    let terms = terms_of f.loops f vars in
    let o = first-none (access_discordant f.loops f.statement.left f.result) _ c.order in
    let o2 = first-none (accesses_discordant f.tensors f.loops (right_accesses f.statement)) (terms_deep f.loops (left_of f.loops f) terms) o.1 in
    let known = known-named vars f.loops r.1 in
    let sizes : length (sizes_of f.loops f vars) ≡ length f.loops = length-map f.loops (size_of vars) in
    let same : length f.loops ≡ length vars = eqb-true _ _ p.0 in
    let eight : length vars ≤ 8 = ltb-false 8 (length vars) c.most in
    let factors : list_all (λ t. list_all (factor_fits f.tensors (sizes_of f.loops f vars)) t.factors) terms ≡ true =
    terms-pass (factor_fits f.tensors (sizes_of f.loops f vars)) (λ n. refl) f.loops f vars
    ∙ accesses-fit f.tensors few f.loops vars known (right_accesses f.statement) b.accesses o2.0 in
    and_from _ _ (eq-eqb _ _ (sym sizes))
    (and_from _ _ (le-leb (length (sizes_of f.loops f vars)) 8 (omega arith))
    (and_from _ _ r.0
    (and_from _ _ (all-range (stands (left_of f.loops f) terms) 0 (length (sizes_of f.loops f vars)) (λ k low high. loop-stands f vars b q.0 r.0 k (omega arith)))
    (and_from _ _ (access-fits f.loops vars known f.statement.left f.result b.sizes b.apart o.0)
    (and_from _ _ (le-leb 1 (length terms) (some-terms f.loops f vars fit))
    (and_from _ _ (le-leb (length terms) 16 c.few)
    (terms-fit f.tensors (sizes_of f.loops f vars) f.loops f.statement.left.vars terms c.short factors c.fault o2.1)))))))

-- ---- the top-level terms

place-below : (loops names : List (List ℕ)) → list_all (λ n. is_named n loops) names ≡ true → are_in_range (length loops) (places loops names) ≡ true
place-below loops [] e = refl
place-below loops (n ∷ names) e =
    let p = and_parts _ _ e in
    and_from _ _ (lt-ltb _ _ (place-item (λ n. 0) n loops p.0).0) (place-below loops names p.1)

accesses-below : (tensors : List Tensor) (loops : List (List ℕ)) (vars : List Variable) → ((n : List ℕ) → is_known n vars ≡ true → is_named n loops ≡ true) → (accesses : List AccessText) → AccessesOk tensors vars accesses
    → list_all (λ a. are_in_range (length loops) (places loops a.vars)) accesses ≡ true
accesses-below tensors loops vars known [] h = refl
accesses-below tensors loops vars known (a ∷ accesses) h =
    and_from _ _ (place-below loops a.vars (sized-named vars loops known a.vars h.0.tensor.dims h.0.sizes)) (accesses-below tensors loops vars known accesses h.1)

loops-known : (vars : List Variable) (loops : List (List ℕ)) → are_loops vars loops ≡ true → (n : List ℕ) → is_known n vars ≡ true → is_named n loops ≡ true
loops-known vars loops e =
    let known = list_all (λ n. is_known n vars) loops in
    let named = list_all (λ v. is_named v.name loops) vars in
    let p = and_parts (length loops == length vars) (known && (distinct_names loops && named)) e in
    let q = and_parts known (distinct_names loops && named) p.1 in
    known-named vars loops (and_parts (distinct_names loops) named q.1).1

pub each-fits : (f : File) (vars : List Variable) → BindsFile f vars → Checked f vars → tops_fit (program_of f vars) ≡ true
each-fits f vars b c =
    let left = left_of f.loops f in
    let known = loops-known vars f.loops c.loops in
    let below = accesses-below f.tensors f.loops vars known (right_accesses f.statement) b.accesses in
    let none = kind-none UnusedSum (unused vars (right_sums f.statement)) (tops_bind_wrong f.loops left (file_tops f.loops f)) c.sums in
    let right = no-fault-right f.tensors vars f.loops known left f.statement.tops none.0 none.1 in
    let count : length f.loops ≡ length (sizes_of f.loops f vars) = sym (length-map f.loops (size_of vars)) in
    and_from _ _ (same_terms-self (terms_of f.loops f vars))
    (subst (λ n. list_all (top_fits n left) (file_tops f.loops f) ≡ true) count
    (tops-fit f.tensors f.loops left f.statement.tops below right))
