-- The accesses of an accepted program are bound.
use Rattle.std.proofs.Common.{◌≡◌, ℕ, suc, ◌+◌, ◌-◌, ◌^◌, ◌<◌, ◌≤◌, min, List, [], ◌∷◌, length, slice_index, Bool, true, false, not, ◌||◌, ◌==◌, cond, Option, Some, None, Ok, refl, sym, ap, subst, ◌∙◌, arith, nat_lt}
use Rattle.std.specs.List.{list_all}
use Rattle.std.specs.Str.{bytes_eq}
use Rattle.std.proofs.Math.Numerals.{one-add}
use Rattle.std.proofs.lemmas.Bool.{and_parts, or_parts, or_left, or_right, not-true, eqb-true, eq-eqb, ltb-true, both_ways, false_from_ne_true, cond-true, cond-false}
use Rattle.std.proofs.lemmas.List.{length-map}
use Rattle.std.proofs.lemmas.List.Sums.{prefix_len-le-length}
use mathlib.Core.List.{map}
use Rattle.sam_base.specs.declared.faults.ProgramKind.TheVariants.{RepeatedVariable, DimMismatch}
use Rattle.sam_model.specs.declared.tensors.Tensor.{Tensor}
use Rattle.sam_model.specs.Lists.{is_in}
use Rattle.sam_model.specs.Accepted.{is_named, is_taken, distinct, variables_fit, access_fits, tensor_passes, factor_fits}
use Rattle.notation.specs.declared.statement.AccessText.{AccessText}
use Rattle.program_file.specs.declared.accesses.Variable.{Variable}
use Rattle.program_file.specs.declared.files.File.{File}
use Rattle.program_file.specs.Refusals.{and_then}
use Rattle.program_file.specs.Accesses.{is_variable, is_known, repeated_variable, differs, mismatched, with_variables, named_kind, access_fault, unless, bind_access, bind_left, bind_named, bind_right, bind_accesses, tensor_named}
use Rattle.program_file.specs.Numbers.{place_of, places, size_of, tensor_place, number_of}
use Rattle.program_file.specs.Statements.{right_accesses}
use Rattle.program_file.specs.Programs.{bound_of}
use Rattle.program_file.specs.Written.{access_variables, bound_variables, variables_of}
use Rattle.program_file.proofs.BoundLemmas.{same-name, joined-keeps, place-item, named-in}
use Rattle.program_file.proofs.StatementLemmas.{numbered_access}
use Rattle.program_file.proofs.FitLemmas.{Extends, extends-twice}

named-step : (t : Bool) (n x : List ℕ) (xs : List (List ℕ)) (k : ℕ) → cond (not t) (1 + k) 0 < suc (length xs) → (k < length xs → is_named n xs ≡ true) → (t || is_named n xs) ≡ true
named-step true n x xs k h r = refl
named-step false n x xs k h r = r (omega (arith, h))

-- a place below the number of loops is that of a loop
pub place-named : (n : List ℕ) (loops : List (List ℕ)) → place_of loops n < length loops → is_named n loops ≡ true
place-named n [] h = absurd (omega (arith, h))
place-named n (x ∷ xs) h = named-step (bytes_eq n x) n x xs (place_of xs n) h (place-named n xs)

unknown-same : (n : List ℕ) (d : ℕ) (vars : List Variable) → is_known n vars ≡ false → differs n d vars ≡ false
unknown-same n d [] h = refl
unknown-same n d (x ∷ xs) h = let p = or_parts _ _ h in cond-false (is_variable n x) _ _ p.0 ∙ unknown-same n d xs p.1

known-step : (t : Bool) (n : List ℕ) (d : ℕ) (x : Variable) (xs : List Variable) → (t || is_known n xs) ≡ true → cond t x.size (size_of xs n) ≡ d → (is_known n xs ≡ true → size_of xs n ≡ d → differs n d xs ≡ false) → cond t (not (x.size == d)) (differs n d xs) ≡ false
known-step true n d x xs k e h = ap not (eq-eqb _ _ e)
known-step false n d x xs k e h = h k e

known-same : (n : List ℕ) (d : ℕ) (vars : List Variable) → is_known n vars ≡ true → size_of vars n ≡ d → differs n d vars ≡ false
known-same n d [] k e = absurd cc
known-same n d (x ∷ xs) k e = known-step (is_variable n x) n d x xs k e (known-same n d xs)

-- a variable has its size wherever it is known
same-size : (n : List ℕ) (d : ℕ) (vars : List Variable) → (is_known n vars ≡ true → size_of vars n ≡ d) → differs n d vars ≡ false
same-size n d vars h = by_case (is_known n vars) refl
  where
    by_case : (b : Bool) → is_known n vars ≡ b → differs n d vars ≡ false
    by_case true e = known-same n d vars e (h e)
    by_case false e = unknown-same n d vars e

no-repeat : (loops names : List (List ℕ)) → distinct (places loops names) ≡ true → repeated_variable names ≡ None
no-repeat loops [] e = refl
no-repeat loops (n ∷ names) e =
    let p = and_parts _ _ e in
    let alone : is_named n names ≡ false = false_from_ne_true (is_named n names) (λ h. both_ways (is_in (place_of loops n) (places loops names)) (not-true _ p.0) (named-in loops n names h)) in
    cond-false (is_named n names) _ _ alone ∙ no-repeat loops names p.1

-- the sizes of all variables, by the loops
module _ (all : List Variable) (loops : List (List ℕ)) where
  abbrev pub sizes : List ℕ
  sizes = map (size_of all) loops

  fit-size : (n : List ℕ) (d : ℕ) → nat_lt (place_of loops n) (length sizes) ≡ true → (slice_index sizes (place_of loops n) == d) ≡ true → (is_named n loops ≡ true) × (size_of all n ≡ d)
  fit-size n d low same =
      let less : place_of loops n < length loops = subst (λ k. place_of loops n < k) (length-map loops (size_of all)) (ltb-true _ _ low) in
      let named = place-named n loops less in
      (named, sym (place-item (size_of all) n loops named).1 ∙ eqb-true _ _ same)

  no-mismatch : (vars : List Variable) → Extends vars all → (names : List (List ℕ)) (dims : List ℕ) → variables_fit sizes dims (places loops names) ≡ true → mismatched vars names dims ≡ None
  no-mismatch vars ext [] dims e = refl
  no-mismatch vars ext (n ∷ names) [] e = refl
  no-mismatch vars ext (n ∷ names) (d ∷ dims) e =
      let p = and_parts _ _ e in
      let q = and_parts _ _ p.1 in
      let f = fit-size n d p.0 q.0 in
      let same : differs n d vars ≡ false = same-size n d vars (λ k. sym (ext n k).1 ∙ f.1) in
      cond-false (differs n d vars) _ _ same ∙ no-mismatch vars ext names dims q.1

  fit-count : (names : List (List ℕ)) (dims : List ℕ) → variables_fit sizes dims (places loops names) ≡ true → length names ≡ length dims
  fit-count [] [] e = refl
  fit-count [] (d ∷ dims) e = absurd cc
  fit-count (n ∷ names) [] e = absurd cc
  fit-count (n ∷ names) (d ∷ dims) e = ap suc (fit-count names dims (and_parts _ _ (and_parts _ _ e).1).1)

  -- the variables of an access that fits are loops
  pub fit-named : (names : List (List ℕ)) (dims : List ℕ) → variables_fit sizes dims (places loops names) ≡ true → list_all (λ n. is_named n loops) names ≡ true
  fit-named [] dims e = refl
  fit-named (n ∷ names) [] e = absurd cc
  fit-named (n ∷ names) (d ∷ dims) e =
      let p = and_parts _ _ e in
      let q = and_parts _ _ p.1 in
      rw ((fit-size n d p.0 q.0).0) (fit-named names dims q.1)

  no-fault : (vars : List Variable) → Extends vars all → (a : AccessText) (t : Tensor) → access_fits sizes (places loops a.vars) t ≡ true → access_fault vars a t ≡ None
  no-fault vars ext a t e =
      let p = and_parts _ _ e in
      let q = and_parts _ _ p.1 in
      let count : (length a.vars == length t.dims) ≡ true = eq-eqb _ _ (fit-count a.vars t.dims p.0) in
      cond-false (not (length a.vars == length t.dims)) _ _ (ap not count)
      ∙ ap (λ o. named_kind RepeatedVariable o (named_kind DimMismatch (mismatched vars a.vars t.dims) None)) (no-repeat loops a.vars q.0)
      ∙ ap (λ o. named_kind DimMismatch o None) (no-mismatch vars ext a.vars t.dims p.0)

  pub access-bound : (line : ℕ) (vars : List Variable) → Extends vars all → (a : AccessText) (t : Tensor) → access_fits sizes (places loops a.vars) t ≡ true → bind_access line vars a t ≡ Ok (with_variables vars a.vars t.dims)
  access-bound line vars ext a t e = ap (λ o. unless line o (with_variables vars a.vars t.dims)) (no-fault vars ext a t e)

-- the tensor of a number that passes a test
pub record NamedPasses (test : Tensor → Bool) (name : List ℕ) (ts : List Tensor) : Type 0 where
  pub tensor : Tensor
  pub named : tensor_named name ts ≡ Some tensor
  pub passes : test tensor ≡ true
  pub taken : is_taken name ts ≡ true

passes-step : (u : Bool) (test : Tensor → Bool) (name : List ℕ) (x : Tensor) (ts : List Tensor) (k : ℕ) → bytes_eq name x.name ≡ u → tensor_passes test (x ∷ ts) (cond (not u) (1 + k) 0) ≡ true
    → (tensor_passes test ts k ≡ true → NamedPasses test name ts) → NamedPasses test name (x ∷ ts)
passes-step true test name x ts k u e h = record { tensor = x; named = cond-true (bytes_eq name x.name) _ _ u; passes = e; taken = or_left _ _ u }
passes-step false test name x ts k u e h =
    let r = h (sym (ap (λ i. tensor_passes test (x ∷ ts) i) (one-add k)) ∙ e) in
    record { tensor = r.tensor; named = cond-false (bytes_eq name x.name) _ _ u ∙ r.named; passes = r.passes; taken = or_right (bytes_eq name x.name) _ r.taken }

place-passes : (test : Tensor → Bool) (name : List ℕ) (ts : List Tensor) → tensor_passes test ts (tensor_place ts name) ≡ true → NamedPasses test name ts
place-passes test name [] e = absurd cc
place-passes test name (x ∷ ts) e = passes-step (bytes_eq name x.name) test name x ts (tensor_place ts name) refl e (place-passes test name ts)

least : (a b : ℕ) → a ≤ b → min a b ≡ a
least a b h = omega arith

pub number-passes : (test : Tensor → Bool) (name : List ℕ) (ts : List Tensor) → length ts < 2 ^ 32 → tensor_passes test ts (number_of ts name) ≡ true → NamedPasses test name ts
number-passes test name ts few e =
    let most = prefix_len-le-length (λ (t : Tensor). not (bytes_eq name t.name)) ts in
    let same : number_of ts name ≡ tensor_place ts name = least (tensor_place ts name) (2 ^ 32 - 1) (omega arith) in
    place-passes test name ts (subst (λ n. tensor_passes test ts n ≡ true) same e)

-- what is known stays known, with its size
access-keeps : (vars : List Variable) (a : AccessText) (o : Option Tensor) → Extends vars (access_variables vars a o)
access-keeps vars a None n h = (h, refl)
access-keeps vars a (Some t) n h = joined-keeps a.vars t.dims n vars h

accesses-keep : (tensors : List Tensor) (accesses : List AccessText) (vars : List Variable) → Extends vars (bound_variables tensors vars accesses)
accesses-keep tensors [] vars n h = (h, refl)
accesses-keep tensors (a ∷ accesses) vars n h =
    let more = access_variables vars a (tensor_named a.name tensors) in
    extends-twice vars more (bound_variables tensors more accesses) (access-keeps vars a (tensor_named a.name tensors)) (accesses-keep tensors accesses more) n h

module _ (line : ℕ) (tensors : List Tensor) (scalars : List (List ℕ)) (result : Tensor) (few : length tensors < 2 ^ 32) (free : is_taken result.name tensors ≡ false) (all : List Variable) (loops : List (List ℕ)) where
  right-bound : (vars : List Variable) → Extends vars all → (a : AccessText) → factor_fits tensors (sizes all loops) (numbered_access tensors loops a) ≡ true
      → bind_right line tensors scalars result vars a ≡ Ok (access_variables vars a (tensor_named a.name tensors))
  right-bound vars ext a e =
      let n = number-passes (access_fits (sizes all loops) (places loops a.vars)) a.name tensors few e in
      let other : bytes_eq a.name result.name ≡ false = false_from_ne_true (bytes_eq a.name result.name)
      (λ h. both_ways (is_taken result.name tensors) free (subst (λ m. is_taken m tensors ≡ true) (same-name a.name result.name h) n.taken)) in
      cond-false (bytes_eq a.name result.name) _ _ other
      ∙ ap (λ o. bind_named line scalars vars a o) n.named
      ∙ access-bound all loops line vars ext a n.tensor n.passes
      ∙ ap (λ o. Ok (access_variables vars a o)) (sym n.named)

  accesses-bound : (accesses : List AccessText) (vars : List Variable) → Extends (bound_variables tensors vars accesses) all → list_all (λ a. factor_fits tensors (sizes all loops) (numbered_access tensors loops a)) accesses ≡ true
      → bind_accesses line tensors scalars result vars accesses ≡ Ok (bound_variables tensors vars accesses)
  accesses-bound [] vars ext e = refl
  accesses-bound (a ∷ accesses) vars ext e =
      let p = and_parts _ _ e in
      let more = access_variables vars a (tensor_named a.name tensors) in
      let here = extends-twice vars (bound_variables tensors more accesses) all (accesses-keep tensors (a ∷ accesses) vars) ext in
      ap (λ r. and_then r (λ vs. bind_accesses line tensors scalars result vs accesses)) (right-bound vars here a p.0)
      ∙ accesses-bound accesses more ext p.1

none-known : (all : List Variable) → Extends [] all
none-known all n h = absurd cc

-- the accesses of a file are bound to its variables, where they fit by numbers
pub file-bound : (f : File) → length f.tensors < 2 ^ 32 → is_taken f.result.name f.tensors ≡ false → bytes_eq f.statement.left.name f.result.name ≡ true
    → access_fits (sizes (variables_of f) f.loops) (places f.loops f.statement.left.vars) f.result ≡ true
    → list_all (λ a. factor_fits f.tensors (sizes (variables_of f) f.loops) (numbered_access f.tensors f.loops a)) (right_accesses f.statement) ≡ true
    → bound_of f ≡ Ok (variables_of f)
file-bound f few free left fits accesses =
    let vars = with_variables [] f.statement.left.vars f.result.dims in
    let right = right_accesses f.statement in
    let bound : bind_left f.statement_line f.result f.statement.left ≡ Ok vars =
    cond-true (bytes_eq f.statement.left.name f.result.name) _ _ left
    ∙ access-bound (variables_of f) f.loops f.statement_line [] (none-known (variables_of f)) f.statement.left f.result fits in
    ap (λ r. and_then r (λ vs. bind_accesses f.statement_line f.tensors f.scalars f.result vs right)) bound
    ∙ accesses-bound f.statement_line f.tensors f.scalars f.result few free (variables_of f) f.loops right vars (λ n h. (h, refl)) accesses
