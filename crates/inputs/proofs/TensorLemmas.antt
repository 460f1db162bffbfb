-- Entries as they are kept, and tensors as they are stored.
use Rattle.std.proofs.Common.{◌≡◌, ℕ, zero, suc, ◌+◌, ◌*◌, ◌≤◌, ◌<◌, Bool, true, false, List, [], ◌∷◌, ◌++◌, length, take, drop, refl, sym, ap, ◌∙◌, arith, inl, inr}
use Rattle.std.specs.Prelude.{Option, Result, Ok, Err, nat_le, if◌then◌else◌}
use Rattle.std.specs.List.{flat_map, list_all, range_with_len}
use Rattle.std.proofs.lemmas.Bool.Decides.{nat_tests}
use Rattle.std.proofs.lemmas.List.{length-drop, take-append-drop}
use mathlib.Core.List.{map}
use Rattle.sam_base.specs.declared.faults.Fault.{Fault}
use Rattle.sam_base.specs.declared.faults.Fault.TheVariants as fault
use Rattle.sam_base.specs.declared.faults.TnsKind.TheVariants.{TooManyPositions}
use Rattle.sam_base.specs.declared.TheConstants.{POSITIONS_MOST}
use Rattle.sam_io.specs.Outside.{Told}
use Rattle.sam_model.specs.declared.tensors.Tensor.{Tensor}
use Rattle.sam_model.specs.declared.tensors.Entries.{Entries}
use Rattle.sam_model.specs.Tensors.{entry_list, stored_as, stored_prefixes}
use Rattle.sam_model.specs.Denote.{stored_of}
use Rattle.sam_model.specs.Children.{Ranked, ranked}
use Rattle.tns_io.specs.Fields.{Entry}
use Rattle.sam_io.specs.Spans.{FilesSpan}
use Rattle.parts.specs.Parts.{each_part}
use Rattle.parts.specs.Answers.{Comes}
use Rattle.parts.proofs.DueLemmas.{ok_same}
use Rattle.inputs.specs.Tensors.{kept_entries, storable, tensor_part, stored_part, AreStored}

-- ---- entries as they are kept

kept_coords :
    (arity : ℕ) (coords values : List ℕ) → length coords ≡ arity * length values →
    flat_map (λ (entry : Entry). entry.0) (entry_list arity coords values) ≡ coords
kept_coords arity [] [] whole = refl
kept_coords arity (c ∷ coords) [] whole = absurd (omega (arith, whole))
kept_coords arity coords (v ∷ values) whole =
    let left : length (drop arity coords) ≡ arity * length values = grind (arith, length-drop arity coords, whole) in
    ap (λ l. take arity coords ++ l) (kept_coords arity (drop arity coords) values left) ∙ take-append-drop arity coords

kept_values : (arity : ℕ) (coords values : List ℕ) → map (λ (entry : Entry). entry.1) (entry_list arity coords values) ≡ values
kept_values arity coords [] = refl
kept_values arity coords (v ∷ values) = ap (λ l. v ∷ l) (kept_values arity (drop arity coords) values)

-- entries are those that their list is kept as
pub kept_same :
    (arity : ℕ) (e : Entries) → e.arity ≡ arity → length e.coords ≡ e.arity * length e.values →
    kept_entries arity (entry_list e.arity e.coords e.values) ≡ e
kept_same arity e same whole =
    rw (sym same, kept_coords e.arity e.coords e.values whole, kept_values e.arity e.coords e.values) refl

-- ---- whether they may be stored

all_from : (test : ℕ → Bool) (a n : ℕ) → ((k : ℕ) → k < a + n → test k ≡ true) → list_all test (range_with_len a n) ≡ true
all_from test a zero each = refl
all_from test a (suc n) each =
    let here = each a (omega arith) in
    let more = all_from test (a + 1) n (λ k less. each k (omega arith)) in
    rw (here, more) refl

module _ (test : ℕ → Bool) (k : ℕ) (fails : test k ≡ false) where
  -- the first fails, or the rest
  none_at :
      (a n : ℕ) → a ≤ k → (a < k → list_all test (range_with_len (a + 1) n) ≡ false) → (b : Bool) → test a ≡ b →
      list_all test (range_with_len a (suc n)) ≡ false
  none_at a n low rest false is = rw is refl
  none_at a n low rest true is =
      let differs : k ≡ a → ⊥ = λ e. cc (ap test e) in rw (is, rest (omega (arith, differs))) refl

  none_from : (a n : ℕ) → a ≤ k → k < a + n → list_all test (range_with_len a n) ≡ false
  none_from a zero low high = absurd (omega arith)
  none_from a (suc n) low high =
      none_at a n low (λ less. none_from (a + 1) n (omega arith) (omega arith)) (test a) refl

module _ (name : List ℕ) (t : Tensor) (e : Entries) where
  abbrev few_at : ℕ → Bool
  few_at k = nat_le (length (stored_prefixes (stored_as t e) k)) POSITIONS_MOST

  abbrev chosen : Bool → Result Entries Fault
  chosen b = if b then Ok e else Err (fault.Tensor name TooManyPositions 0)

  pub may_store :
      ((k : ℕ) → k ≤ length t.order → length (stored_prefixes (stored_as t e) k) ≤ POSITIONS_MOST) → storable name t e ≡ Ok e
  may_store few =
      ap chosen (all_from few_at 0 (suc (length t.order)) (λ k less. let here = few k (omega arith) in grind (arith, nat_tests, here)))

  pub may_not_store :
      (k : ℕ) → k ≤ length t.order → POSITIONS_MOST < length (stored_prefixes (stored_as t e) k) →
      storable name t e ≡ Err (fault.Tensor name TooManyPositions 0)
  may_not_store k within many =
      let over : few_at k ≡ false = grind (arith, nat_tests, many) in
      ap chosen (none_from few_at k over 0 (suc (length t.order)) (omega arith) (omega arith))

-- ---- as they are stored

module _ (told : Option Told) where
  stored_ok : (t : Tensor) (s : Ranked) → stored_part t told (Ok s) → (e : Entries) × tensor_part t told (Ok e) × (s ≡ ranked (stored_as t e))
  stored_ok t s (text, read, (e, spelled, (kept, may, is))) =
      (kept, (text, read, (e, spelled, may)), ok_same s (ranked (stored_as t kept)) is)

  stored_err : (t : Tensor) (f : Fault) → stored_part t told (Err f) → tensor_part t told (Err f)
  stored_err t f (inl read) = inl read
  stored_err t f (inr (text, read, inl spelled)) = inr (text, read, inl spelled)
  stored_err t f (inr (text, read, inr (e, spelled, inl may))) = inr (text, read, inr (e, spelled, may))
  stored_err t f (inr (text, read, inr (e, spelled, inr (kept, may, is)))) = cc

  -- tensors that were stored were read
  pub all_stored_ok :
      (ts : List Tensor) (stored : List Ranked) → each_part stored_part ts told (Ok stored) →
      (es : List Entries) × each_part tensor_part ts told (Ok es) × (length es ≡ length ts) × (stored ≡ map ranked (stored_of ts es))
  all_stored_ok [] stored is = ([], refl, refl, ok_same stored [] is)
  all_stored_ok (t ∷ ts) stored (s, one, (ss, more, is)) =
      let this = stored_ok t s one in
      let rest = all_stored_ok ts ss more in (
        this.0 ∷ rest.0,
        (this.0, this.1, (rest.0, rest.1, refl)),
        ap suc rest.2,
        ok_same stored (s ∷ ss) is ∙ ap (λ x. x ∷ ss) this.2 ∙ ap (λ l. ranked (stored_as t this.0) ∷ l) rest.3,
      )

  pub all_stored_err : (ts : List Tensor) (f : Fault) → each_part stored_part ts told (Err f) → each_part tensor_part ts told (Err f)
  all_stored_err [] f is = cc
  all_stored_err (t ∷ ts) f (inl one) = inl (stored_err t f one)
  all_stored_err (t ∷ ts) f (inr (s, one, inl more)) =
      let read = stored_ok t s one in inr (read.0, read.1, inl (all_stored_err ts f more))
  all_stored_err (t ∷ ts) f (inr (s, one, inr (ss, more, is))) = cc

-- a refusal where tensors are read and stored is one where they are read
pub comes_read :
    (files : FilesSpan) (ts : List Tensor) (f : Fault) → Comes (each_part stored_part ts) files (Err f) →
    Comes (each_part tensor_part ts) files (Err f)
comes_read files ts f (inl free) = inl free
comes_read files ts f (inr (refused, counted)) = inr (all_stored_err files.told ts f refused, counted)

-- tensors that were stored, with entries that were read
pub are_stored :
    (told : Option Told) (ts : List Tensor) (stored : List Ranked) → each_part stored_part ts told (Ok stored) →
    (es : List Entries) × AreStored ts es stored
are_stored told ts stored parts =
    let all = all_stored_ok told ts stored parts in (all.0, record { each = all.2; are_stored = all.3 })
