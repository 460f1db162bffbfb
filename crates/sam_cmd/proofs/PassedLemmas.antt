-- Results as tensors of the statements behind them, and the answers of these.
use Rattle.std.proofs.Common.{◌≡◌, ◌∙◌, ℕ, ◌+◌, arith, List, [], ◌∷◌, ◌++◌, Bool, true, false, cond, eqb, length, ap, sym, refl, subst, inl, inr}
use Rattle.std.specs.Prelude.{None, Result, Ok, Err, if◌then◌else◌}
use Rattle.std.proofs.lemmas.Bool.{eqb-true}
use Rattle.std.proofs.lemmas.List.{length-append}
use mathlib.Core.List.{map}
use Rattle.sam_base.specs.declared.faults.Fault.{Fault}
use Rattle.sam_base.specs.declared.faults.Fault.TheVariants as fault
use Rattle.sam_base.specs.declared.faults.TnsKind.TheVariants.{TooManyPositions}
use Rattle.sam_io.specs.Spans.{FilesSpan}
use Rattle.sam_model.specs.declared.tensors.Tensor.{Tensor}
use Rattle.sam_model.specs.declared.tensors.Entries.{Entries}
use Rattle.sam_model.specs.declared.program.Program.{Program}
use Rattle.sam_model.specs.Chains.{entries_as, and_result, StepsFollow}
use Rattle.sam_model.specs.Children.{Ranked, ranked}
use Rattle.sam_model.specs.Denote.{stored_of}
use Rattle.sam_model.specs.ResultText.{listing_text}
use Rattle.sam_model.specs.Tensors.{stored_as}
use Rattle.parts.specs.Parts.{Part, gives, followed}
use Rattle.parts.specs.Answers.{Comes, ComesAlways}
use Rattle.parts.proofs.ChainLemmas.{always_first, always_then}
use Rattle.parts.proofs.DueLemmas.{ok_same}
use Rattle.inputs.specs.Tensors.{is_storable, storable, storage_part, AreStored}
use Rattle.runs.specs.Results.{Entry}
use Rattle.sam_cmd.specs.Steps.{and_stored, passed_on, printed, steps_part}
use Rattle.sam_cmd.specs.Onwards.{IsPassedOn, IsRefusedBehind}

pub none-behind : (steps : List Program) → length steps ≡ 0 → steps ≡ []
none-behind [] none = refl
none-behind (p ∷ steps) none = absurd (omega (arith, none))

pub not-eqb : (a b : ℕ) → (a ≡ b → ⊥) → eqb a b ≡ false
not-eqb a b apart = by_case (eqb a b) refl
  where
    by_case : (t : Bool) → eqb a b ≡ t → eqb a b ≡ false
    by_case true is = absurd (apart (eqb-true a b is))
    by_case false is = is

-- ---- one tensor more

-- as many entries as tensors, with one more of each
pub as-many-with : (t : Tensor) (ts : List Tensor) (es : List Entries) (e : Entries) → length es ≡ length ts → length (and_result t es e) ≡ length (and_result t ts t)
as-many-with t ts es e long = by_case (eqb (length t.dims) 0)
  where
    by_case : (b : Bool) → length (cond b es (es ++ e ∷ [])) ≡ length (cond b ts (ts ++ t ∷ []))
    by_case true = long
    by_case false = length-append es (e ∷ []) ∙ ap (λ n. n + 1) long ∙ sym (length-append ts (t ∷ []))

stored-more : (t : Tensor) (ts : List Tensor) (es : List Entries) (e : Entries) → length es ≡ length ts →
    map ranked (stored_of (ts ++ t ∷ []) (es ++ e ∷ [])) ≡ map ranked (stored_of ts es) ++ ranked (stored_as t e) ∷ []
stored-more t [] [] e long = refl
stored-more t [] (x ∷ es) e long = absurd (omega (arith, long))
stored-more t (s ∷ ts) [] e long = absurd (omega (arith, long))
stored-more t (s ∷ ts) (x ∷ es) e long = ap (λ l. ranked (stored_as s x) ∷ l) (stored-more t ts es e (omega (arith, long)))

-- where no file is read
pub nowhere : FilesSpan
nowhere = record { told = None; place = None; faults_before = 0; faults_now = 0; misses_before = 0; misses_now = 0 }

module _ (t : Tensor) (ts : List Tensor) (es : List Entries) (listed : List Entry) (storages : List Ranked) (are : AreStored ts es storages) where
  abbrev e : Entries
  e = entries_as t listed

  kept-is : (kept : Entries) → Ok kept ≡ storable t.name t e → kept ≡ e
  kept-is kept = by_case (is_storable t e)
    where
      by_case : (b : Bool) → Ok kept ≡ (if b then Ok e else Err (fault.Tensor t.name TooManyPositions 0)) → kept ≡ e
      by_case true is = ok_same kept e is
      by_case false is = absurd (cc)

  -- a result without dimensions is no tensor
  pub scalar-passed : eqb (length t.dims) 0 ≡ true → IsPassedOn t ts es listed (Ok storages)
  scalar-passed scalar = rw scalar (es, refl, are)

  pub stored-passed : eqb (length t.dims) 0 ≡ false → (s : Ranked) (more : List Ranked) → more ≡ storages ++ s ∷ [] → ComesAlways (storage_part t.name t e) (Ok s) →
      IsPassedOn t ts es listed (Ok more)
  stored-passed apart s more is stored =
      let (kept, may, made) = stored nowhere in
      let same = kept-is kept may in
      let s-is : s ≡ ranked (stored_as t e) = ok_same s (ranked (stored_as t kept)) made ∙ ap (λ k. ranked (stored_as t k)) same in
      rw apart (
        es ++ e ∷ [],
        ap (and_stored es) (ap Ok (sym same) ∙ may),
        record {
          each = length-append es (e ∷ []) ∙ ap (λ n. n + 1) are.each ∙ sym (length-append ts (t ∷ []));
          are_stored =
              is ∙ ap (λ l. l ++ s ∷ []) are.are_stored ∙ ap (λ x. map ranked (stored_of ts es) ++ x ∷ []) s-is
              ∙ sym (stored-more t ts es e are.each);
        },
      )

  pub refused-passed : eqb (length t.dims) 0 ≡ false → (f : Fault) → ComesAlways (storage_part t.name t e) (Err f) → IsPassedOn t ts es listed (Err f)
  refused-passed apart f refused = rw apart (λ files. passed files (refused files))
    where
      passed : (files : FilesSpan) → Comes (storage_part t.name t e) files (Err f) → Comes {A = List Entries} (gives (and_stored es (storable t.name t e))) files (Err f)
      passed files (inl free) = inl free
      passed files (inr (inl is, counted)) = inr (ap (and_stored es) is, counted)
      passed files (inr (inr (kept, may, is), counted)) = absurd (cc)

-- ---- the answers of the statements behind

module _ (answers : Program → List Entries → Part (List Entry)) (p : Program) (es : List Entries) where
  pub steps-refused : (later : List Program) (f : Fault) → ComesAlways (answers p es) (Err f) → ComesAlways (steps_part answers (p ∷ later) es) (Err f)
  steps-refused [] f refused = always_first (answers p es) (printed p) f refused
  steps-refused (q ∷ steps) f refused =
      always_first (answers p es) (λ listed. followed (gives (passed_on p.result es listed)) (steps_part answers (q ∷ steps))) f refused

  -- its result is listed
  module _ (listed : List Entry) (answered : ComesAlways (answers p es) (Ok listed)) where
    pub steps-printed : (later : List Program) (text : List ℕ) → later ≡ [] → text ≡ listing_text p.result.order listed →
        ComesAlways (steps_part answers (p ∷ later) es) (Ok text)
    steps-printed later text last is =
        subst (λ (steps : List Program). ComesAlways (steps_part answers (p ∷ steps) es) (Ok text)) (sym last)
        (always_then (answers p es) (printed p) listed (Ok text) answered (λ files. ap Ok is))

    abbrev behind : Program → List Program → List Entry → Part (List ℕ)
    behind q steps l = followed (gives (passed_on p.result es l)) (steps_part answers (q ∷ steps))

    pub refused-behind : (later : List Program) (f : Fault) → IsRefusedBehind p later es listed f → ComesAlways (steps_part answers (p ∷ later) es) (Err f)
    refused-behind [] f refused = always_then (answers p es) (printed p) listed (Err f) answered refused
    refused-behind (q ∷ steps) f refused =
        always_then (answers p es) (behind q steps) listed (Err f) answered
        (always_first (gives (passed_on p.result es listed)) (steps_part answers (q ∷ steps)) f refused)

    pub steps-behind : (later : List Program) (q : Program) (steps : List Program) (next : List Entries) (r : Result (List ℕ) Fault) → later ≡ q ∷ steps →
        Ok next ≡ passed_on p.result es listed → ComesAlways (steps_part answers (q ∷ steps) next) r → ComesAlways (steps_part answers (p ∷ later) es) r
    steps-behind later q steps next r is passed rest =
        subst (λ (ps : List Program). ComesAlways (steps_part answers (p ∷ ps) es) r) (sym is)
        (always_then (answers p es) (behind q steps) listed r answered
        (always_then (gives (passed_on p.result es listed)) (steps_part answers (q ∷ steps)) next r (λ files. passed) rest))

-- the tensors of the next program are those behind this one
pub next-stored : (p q : Program) (later steps : List Program) (es : List Entries) (storages : List Ranked) → StepsFollow p.tensors (p ∷ later) → later ≡ q ∷ steps →
    AreStored (and_result p.result p.tensors p.result) es storages → AreStored q.tensors es storages
next-stored p q later steps es storages follow is are =
    let behind = subst (λ (ps : List Program). StepsFollow (and_result p.result p.tensors p.result) ps) is follow.1.1 in
    subst (λ (ts : List Tensor). AreStored ts es storages) (sym behind.0) are
