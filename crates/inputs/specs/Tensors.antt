-- The tensors of a program, as parts.
use Rattle.std.specs.Prelude.{◌≡◌, ℕ, suc, Bool, List, Option, Some, None, Result, Ok, Err, length, nat_le, if◌then◌else◌}
use Rattle.std.specs.List.{flat_map, list_all}
use mathlib.Core.List.{map}
use Rattle.sam_base.specs.declared.faults.Fault.{Fault}
use Rattle.sam_base.specs.declared.faults.Fault.TheVariants as fault
use Rattle.sam_base.specs.declared.faults.TnsKind.{TnsKind}
use Rattle.sam_base.specs.declared.faults.TnsKind.TheVariants.{FileTooLong, TooManyPositions}
use Rattle.sam_base.specs.declared.TheConstants.{POSITIONS_MOST}
use Rattle.sam_model.specs.declared.tensors.Tensor.{Tensor}
use Rattle.sam_model.specs.declared.tensors.Entries.{Entries}
use Rattle.sam_model.specs.Lists.{below}
use Rattle.sam_model.specs.Tensors.{stored_as, stored_prefixes}
use Rattle.sam_model.specs.Denote.{stored_of}
use Rattle.sam_model.specs.Children.{Ranked, ranked}
use Rattle.tns_io.specs.Fields.{Entry}
use Rattle.tns_io.specs.Entries.{tns_entries}
use Rattle.parts.specs.Parts.{Part, gives, followed, reads}

-- entries one behind the other, as they are kept
abbrev pub kept_entries : ℕ → List Entry → Entries
kept_entries arity entries = record {
  arity = arity;
  coords = flat_map (λ (entry : Entry). entry.0) entries;
  values = map (λ (entry : Entry). entry.1) entries;
}

-- a tensor's entries, or the first bad line of its file
abbrev pub with_tensor_fault : Tensor → Result (List Entry) (TnsKind × ℕ) → Result Entries Fault
with_tensor_fault t (Ok entries) = Ok (kept_entries (length t.dims) entries)
with_tensor_fault t (Err bad) = Err (fault.Tensor t.file bad.0 bad.1)

-- the entries that a tensor's file spells; none are the bytes of a file that is too long
abbrev pub entries_in : Tensor → Option (List ℕ) → Result Entries Fault
entries_in t None = Err (fault.Tensor t.file FileTooLong 0)
entries_in t (Some bytes) = with_tensor_fault t (tns_entries t.dims bytes)

-- no more prefixes of one length are stored than may be
abbrev pub is_storable : Tensor → Entries → Bool
is_storable t e =
    list_all (λ k. nat_le (length (stored_prefixes (stored_as t e) k)) POSITIONS_MOST) (below (suc (length t.order)))

-- the entries, where they may be stored; a tensor is told by this name
abbrev pub storable : List ℕ → Tensor → Entries → Result Entries Fault
storable name t e = if is_storable t e then Ok e else Err (fault.Tensor name TooManyPositions 0)

abbrev pub tensor_part : Tensor → Part Entries
tensor_part t = followed (reads t.file) (λ text. followed (gives (entries_in t text)) (λ e. gives (storable t.file t e)))

-- ---- as they are stored

-- the entries' storage, where they may be stored; a tensor is told by this name
abbrev pub storage_part : List ℕ → Tensor → Entries → Part Ranked
storage_part name t e = followed (gives (storable name t e)) (λ kept. gives (Ok (ranked (stored_as t kept))))

abbrev pub stored_part : Tensor → Part Ranked
stored_part t = followed (reads t.file) (λ text. followed (gives (entries_in t text)) (storage_part t.file t))

-- tensors as they are stored from a list of entries for each
pub record AreStored (tensors : List Tensor) (entries : List Entries) (stored : List Ranked) : Type 0 where
  pub each : length entries ≡ length tensors
  pub are_stored : stored ≡ map ranked (stored_of tensors entries)
