-- The checks of an accepted program find no fault.
use Rattle.std.proofs.Common.{◌≡◌, ℕ, zero, suc, ◌+◌, ◌^◌, ◌<◌, ◌≤◌, List, [], ◌∷◌, ◌++◌, length, Bool, true, false, ◌||◌, cond, Option, Some, None, refl, sym, ap, subst, ◌∙◌, arith, inl, inr, eqb}
use Rattle.std.specs.List.{list_all, list_any, range_with_len}
use Rattle.std.specs.Str.{bytes_eq}
use Rattle.std.proofs.lemmas.Bool.{cases_lt, and_parts, and_from, or_from, or_left, or_right, or_cases, eqb-true, eq-eqb, le-ltb, cond-true}
use Rattle.std.proofs.lemmas.List.{length-map}
use Rattle.sam_base.specs.declared.faults.ProgramKind.TheVariants.{MissingResultVariable}
use Rattle.sam_model.specs.declared.tensors.Tensor.{Tensor}
use Rattle.sam_model.specs.Lists.{is_in, items_at, below}
use Rattle.sam_model.specs.declared.program.Factor.{Factor}
use Rattle.sam_model.specs.declared.program.Term.{Term}
use Rattle.sam_model.specs.Denote.{vars_of, has_var}
use Rattle.sam_model.specs.Accepted.{is_named, distinct_names, is_access, ascending, access_fits, factor_fits, term_fits, term_has, reduces, factor_reduces, stands}
use Rattle.sam_model.proofs.AcceptedPrograms.{term-parts}
use Rattle.expand.specs.Counting.{have_long}
use Rattle.notation.specs.declared.statement.AccessText.{AccessText}
use Rattle.program_file.specs.declared.accesses.Variable.{Variable}
use Rattle.program_file.specs.declared.files.File.{File}
use Rattle.program_file.specs.Accesses.{is_known, named_kind, with_variable, with_variables, tensor_named}
use Rattle.program_file.specs.Numbers.{are_loops, names_of, place_of, places, name_at}
use Rattle.program_file.specs.Statements.{right_accesses}
use Rattle.program_file.specs.Checks.{first_of, has_named, missing, term_fault, terms_fault, vars_deep, factors_deep, terms_deep, access_discordant, named_discordant, accesses_discordant}
use Rattle.program_file.specs.Programs.{left_of, terms_of}
use Rattle.program_file.specs.Written.{access_variables, bound_variables, variables_of}
use Rattle.program_file.proofs.BoundLemmas.{same-name, name-same, var, place-apart, own-place, sized}
use Rattle.program_file.proofs.StatementLemmas.{numbered_access, terms-have}
use Rattle.program_file.proofs.FitLemmas.{AccessesOk, BindsFile}
use Rattle.program_file.proofs.NameSets.{no-more, distinct-end}
use Rattle.program_file.proofs.CompleteBinds.{sizes, fit-named, number-passes}

-- ---- variables of the accesses are loops

all-named : (names loops : List (List ℕ)) (n : List ℕ) → list_all (λ m. is_named m loops) names ≡ true → is_named n names ≡ true → is_named n loops ≡ true
all-named [] loops n e h = absurd cc
all-named (m ∷ names) loops n e h =
    let p = and_parts _ _ e in
    elim (or_cases (bytes_eq n m) (is_named n names) h) [
      | inl k ↦ subst (λ x. is_named x loops ≡ true) (sym (same-name n m k)) p.0
      | inr k ↦ all-named names loops n p.1 k
    ]

-- ---- what holds of the terms

named-of : (names : List (List ℕ)) (t : Term) (v : List ℕ) → term_has t (place_of names v) ≡ true → has_named names t v ≡ true
unfolding has_named
named-of names t v e = e

none-missing : (names : List (List ℕ)) (t : Term) (left : List (List ℕ)) → list_all (term_has t) (places names left) ≡ true → missing names t left ≡ None
none-missing names t [] e = refl
none-missing names t (v ∷ vs) e =
    let p = and_parts _ _ e in
    cond-true (has_named names t v) _ _ (named-of names t v p.0) ∙ none-missing names t vs p.1

vars-shallow : (names : List (List ℕ)) (left vs : List ℕ) → list_all (reduces left) vs ≡ true → vars_deep names left vs ≡ None
vars-shallow names left [] e = refl
vars-shallow names left (v ∷ vs) e =
    let p = and_parts _ _ e in
    cond-true (reduces left v) _ _ p.0 ∙ vars-shallow names left vs p.1

factors-shallow : (names : List (List ℕ)) (left : List ℕ) (fs : List Factor) → list_all (factor_reduces left) fs ≡ true → factors_deep names left fs ≡ None
factors-shallow names left [] e = refl
factors-shallow names left (x ∷ fs) e =
    let p = and_parts _ _ e in
    ap (λ o. first_of o (factors_deep names left fs)) (vars-shallow names left (vars_of x) p.0) ∙ factors-shallow names left fs p.1

-- the checks find no fault in terms that fit
pub record TermsFit (tensors : List Tensor) (dims : List ℕ) (names left : List (List ℕ)) (ts : List Term) : Type 0 where
  pub factors : list_all (λ t. list_all (factor_fits tensors dims) t.factors) ts ≡ true
  pub short : have_long ts ≡ false
  pub fault : terms_fault names left ts ≡ None
  pub shallow : terms_deep names (places names left) ts ≡ None

pub terms-fit : (tensors : List Tensor) (dims : List ℕ) (names left : List (List ℕ)) (ts : List Term) → list_all (term_fits tensors dims (places names left)) ts ≡ true → TermsFit tensors dims names left ts
terms-fit tensors dims names left [] e = record { factors = refl; short = refl; fault = refl; shallow = refl }
terms-fit tensors dims names left (t ∷ ts) e =
    let p = and_parts _ _ e in
    let f = term-parts tensors dims (places names left) t p.0 in
    let r = terms-fit tensors dims names left ts p.1 in
    let fault : term_fault names left t ≡ None =
    cond-true (list_any is_access t.factors) _ _ f.has ∙ ap (λ o. named_kind MissingResultVariable o None) (none-missing names t left f.complete) in
    record {
      factors = and_from _ _ f.fit r.factors;
      short = or_from _ _ (le-ltb 8 (length t.factors) f.few) r.short;
      fault = ap (λ o. first_of o (terms_fault names left ts)) fault ∙ r.fault;
      shallow = ap (λ o. first_of o (terms_deep names (places names left) ts)) (factors-shallow names (places names left) t.factors f.reduce) ∙ r.shallow;
    }

-- ---- what holds of the accesses

module _ (tensors : List Tensor) (few : length tensors < 2 ^ 32) (all : List Variable) (loops : List (List ℕ)) where
  abbrev pub AccessesFit : List AccessText → Type 0
  AccessesFit accesses = list_all (λ a. factor_fits tensors (sizes all loops) (numbered_access tensors loops a)) accesses ≡ true

  access-named : (a : AccessText) → factor_fits tensors (sizes all loops) (numbered_access tensors loops a) ≡ true → list_all (λ n. is_named n loops) a.vars ≡ true
  access-named a e =
      let n = number-passes (access_fits (sizes all loops) (places loops a.vars)) a.name tensors few e in
      fit-named all loops a.vars n.tensor.dims (and_parts _ _ n.passes).0

  accesses-named : (accesses : List AccessText) (n : List ℕ) → AccessesFit accesses → list_any (λ a. is_named n a.vars) accesses ≡ true → is_named n loops ≡ true
  accesses-named [] n e h = absurd cc
  accesses-named (a ∷ accesses) n e h =
      let p = and_parts _ _ e in
      elim (or_cases (is_named n a.vars) (list_any (λ b. is_named n b.vars) accesses) h) [
        | inl k ↦ all-named a.vars loops n (access-named a p.0) k
        | inr k ↦ accesses-named accesses n p.1 k
      ]

  pub in-loop-order : (a : AccessText) (t : Tensor) → access_fits (sizes all loops) (places loops a.vars) t ≡ true → access_discordant loops a t ≡ None
  in-loop-order a t e = cond-true (ascending (items_at (places loops a.vars) t.order)) _ _ (and_parts _ _ (and_parts _ _ e).1).1

  pub accesses-concordant : (accesses : List AccessText) → AccessesFit accesses → accesses_discordant tensors loops accesses ≡ None
  accesses-concordant [] e = refl
  accesses-concordant (a ∷ accesses) e =
      let p = and_parts _ _ e in
      let n = number-passes (access_fits (sizes all loops) (places loops a.vars)) a.name tensors few p.0 in
      ap (λ o. first_of (named_discordant loops a o) (accesses_discordant tensors loops accesses)) n.named
      ∙ ap (λ o. first_of o (accesses_discordant tensors loops accesses)) (in-loop-order a n.tensor n.passes)
      ∙ accesses-concordant accesses p.1

-- ---- the loops are the variables

known-is-named : (n : List ℕ) (vars : List Variable) → is_known n vars ≡ is_named n (names_of vars)
known-is-named n [] = refl
known-is-named n (v ∷ vars) = ap (λ b. bytes_eq n v.name || b) (known-is-named n vars)

push-names : (vars : List Variable) (n : List ℕ) (d : ℕ) → names_of (vars ++ var n d ∷ []) ≡ names_of vars ++ n ∷ []
push-names [] n d = refl
push-names (v ∷ vars) n d = ap (λ ns. v.name ∷ ns) (push-names vars n d)

variable-apart : (vars : List Variable) (n : List ℕ) (d : ℕ) → distinct_names (names_of vars) ≡ true → distinct_names (names_of (with_variable vars n d)) ≡ true
variable-apart vars n d h = by_case (is_known n vars) refl
  where
    by_case : (b : Bool) → is_known n vars ≡ b → distinct_names (names_of (cond b vars (vars ++ var n d ∷ []))) ≡ true
    by_case true e = h
    by_case false e = ap distinct_names (push-names vars n d) ∙ distinct-end (names_of vars) n h (sym (known-is-named n vars) ∙ e)

variables-apart : (names : List (List ℕ)) (dims : List ℕ) (vars : List Variable) → distinct_names (names_of vars) ≡ true → distinct_names (names_of (with_variables vars names dims)) ≡ true
variables-apart [] dims vars h = h
variables-apart (n ∷ names) [] vars h = h
variables-apart (n ∷ names) (d ∷ dims) vars h = variables-apart names dims (with_variable vars n d) (variable-apart vars n d h)

access-apart : (vars : List Variable) (a : AccessText) (o : Option Tensor) → distinct_names (names_of vars) ≡ true → distinct_names (names_of (access_variables vars a o)) ≡ true
access-apart vars a None h = h
access-apart vars a (Some t) h = variables-apart a.vars t.dims vars h

accesses-apart : (tensors : List Tensor) (accesses : List AccessText) (vars : List Variable) → distinct_names (names_of vars) ≡ true → distinct_names (names_of (bound_variables tensors vars accesses)) ≡ true
accesses-apart tensors [] vars h = h
accesses-apart tensors (a ∷ accesses) vars h = accesses-apart tensors accesses (access_variables vars a (tensor_named a.name tensors)) (access-apart vars a (tensor_named a.name tensors) h)

-- the variable at a place of the loops
record KnownAt (vars : List Variable) (loops : List (List ℕ)) (k : ℕ) : Type 0 where
  name : List ℕ
  known : is_known name vars ≡ true
  place : place_of loops name ≡ k

sized-at : (vars : List Variable) (loops names : List (List ℕ)) (dims : List ℕ) (k : ℕ) → sized vars names dims ≡ true → is_in k (places loops names) ≡ true → KnownAt vars loops k
sized-at vars loops [] dims k s e = absurd cc
sized-at vars loops (n ∷ names) [] k s e = absurd cc
sized-at vars loops (n ∷ names) (d ∷ dims) k s e =
    let p = and_parts _ _ s in
    elim (or_cases (eqb k (place_of loops n)) (is_in k (places loops names)) e) [
      | inl h ↦ record { name = n; known = p.0; place = sym (eqb-true _ _ h) }
      | inr h ↦ sized-at vars loops names dims k (and_parts _ _ p.1).1 h
    ]

accesses-at : (tensors : List Tensor) (vars : List Variable) (loops : List (List ℕ)) (accesses : List AccessText) (k : ℕ) → AccessesOk tensors vars accesses
    → list_any (λ a. has_var k (numbered_access tensors loops a)) accesses ≡ true → KnownAt vars loops k
accesses-at tensors vars loops [] k ok e = absurd cc
accesses-at tensors vars loops (a ∷ accesses) k ok e = elim (or_cases (is_in k (places loops a.vars)) _ e) [
  | inl h ↦ sized-at vars loops a.vars ok.0.tensor.dims k ok.0.sizes h
  | inr h ↦ accesses-at tensors vars loops accesses k ok.1 h
]

all-from : (p : List ℕ → Bool) (loops : List (List ℕ)) → ((k : ℕ) → k < length loops → p (name_at loops k) ≡ true) → list_all p loops ≡ true
all-from p [] h = refl
all-from p (x ∷ xs) h = and_from _ _ (h zero (omega arith)) (all-from p xs (λ k l. h (suc k) (omega (arith, l))))

range-at : (p : ℕ → Bool) (a n k : ℕ) → list_all p (range_with_len a n) ≡ true → a ≤ k → k < a + n → p k ≡ true
range-at p a zero k e low high = absurd (omega arith)
range-at p a (suc n) k e low high =
    let q = and_parts _ _ e in
    elim (cases_lt a k) [
      | inl h ↦ range-at p (a + 1) n k q.1 (omega arith) (omega arith)
      | inr h ↦ let same : a ≡ k = omega arith in subst (λ m. p m ≡ true) same q.0
    ]

all-names : (p : List ℕ → Bool) (vars : List Variable) → ((n : List ℕ) → is_known n vars ≡ true → p n ≡ true) → list_all (λ v. p v.name) vars ≡ true
all-names p [] h = refl
all-names p (v ∷ vars) h = and_from _ _ (h v.name (or_left _ _ (name-same v.name v.name refl))) (all-names p vars (λ n k. h n (or_right (bytes_eq n v.name) _ k)))

-- the loops of a file whose statement fits are its variables, each once
pub loops-match : (f : File) (vars : List Variable) → BindsFile f vars → distinct_names (names_of vars) ≡ true → distinct_names f.loops ≡ true
    → ((n : List ℕ) → is_known n vars ≡ true → is_named n f.loops ≡ true)
    → list_all (stands (left_of f.loops f) (terms_of f.loops f vars)) (below (length f.loops)) ≡ true
    → are_loops vars f.loops ≡ true
loops-match f vars b apart loops named all =
    let known : list_all (λ n. is_known n vars) f.loops ≡ true = all-from (λ n. is_known n vars) f.loops (λ k l. at k l (stood k l)) in
    let fewer : length (names_of vars) ≤ length f.loops = no-more (names_of vars) f.loops apart (λ n h. named n (known-is-named n vars ∙ h)) in
    let more : length f.loops ≤ length (names_of vars) = no-more f.loops (names_of vars) loops (λ n h. sym (known-is-named n vars) ∙ all-known f.loops n known h) in
    let count : length f.loops ≡ length vars = omega (arith, length-map vars (λ v. v.name)) in
    and_from _ _ (eq-eqb _ _ count) (and_from _ _ known (and_from _ _ loops (all-names (λ n. is_named n f.loops) vars named)))
  where
    stood : (k : ℕ) → k < length f.loops → KnownAt vars f.loops k
    stood k l = elim (or_cases (is_in k (left_of f.loops f)) _ (range-at (stands (left_of f.loops f) (terms_of f.loops f vars)) 0 (length f.loops) k all (omega arith) (omega (arith, l)))) [
      | inl h ↦ sized-at vars f.loops f.statement.left.vars f.result.dims k b.sizes h
      | inr h ↦ accesses-at f.tensors vars f.loops (right_accesses f.statement) k b.accesses (sym (terms-have f.loops f vars k) ∙ h)
    ]

    at : (k : ℕ) → k < length f.loops → KnownAt vars f.loops k → is_known (name_at f.loops k) vars ≡ true
    at k l w =
        let same : w.name ≡ name_at f.loops k = place-apart w.name (name_at f.loops k) f.loops (named w.name w.known) (w.place ∙ sym (own-place f.loops k loops l)) in
        subst (λ n. is_known n vars ≡ true) same w.known

    all-known : (names : List (List ℕ)) (n : List ℕ) → list_all (λ m. is_known m vars) names ≡ true → is_named n names ≡ true → is_known n vars ≡ true
    all-known [] n e h = absurd cc
    all-known (m ∷ names) n e h =
        let p = and_parts _ _ e in
        elim (or_cases (bytes_eq n m) (is_named n names) h) [
          | inl k ↦ subst (λ x. is_known x vars ≡ true) (sym (same-name n m k)) p.0
          | inr k ↦ all-known names n p.1 k
        ]

-- the variables of a file have names that differ
pub variables-distinct : (f : File) → distinct_names (names_of (variables_of f)) ≡ true
variables-distinct f =
    accesses-apart f.tensors (right_accesses f.statement) (with_variables [] f.statement.left.vars f.result.dims) (variables-apart f.statement.left.vars f.result.dims [] refl)

-- what is known of a file's statement is a loop
pub known-loops : (f : File) (vars : List Variable) (few : length f.tensors < 2 ^ 32) → BindsFile f vars → (all : List Variable)
    → access_fits (sizes all f.loops) (places f.loops f.statement.left.vars) f.result ≡ true
    → AccessesFit f.tensors few all f.loops (right_accesses f.statement)
    → (n : List ℕ) → is_known n vars ≡ true → is_named n f.loops ≡ true
known-loops f vars few b all fits accesses n h = elim (b.from n h) [
  | inl k ↦ all-named f.statement.left.vars f.loops n (fit-named all f.loops f.statement.left.vars f.result.dims (and_parts _ _ fits).0) k
  | inr k ↦ accesses-named f.tensors few all f.loops (right_accesses f.statement) n accesses k
]
