-- What is stored of a tensor: stored prefixes, values and ranks. Coordinates are in storage order.
use Rattle.std.specs.Prelude.{ℕ, zero, suc, ◌%◌, ◌^◌, Bool, cond, ◌||◌, List, [], ◌∷◌, length, take, drop, eqb}
use Rattle.std.specs.List.{filter, list_any}
use mathlib.Core.List.{map}
use Rattle.sam_model.specs.declared.tensors.Format.{Format}
use Rattle.sam_model.specs.declared.tensors.Format.TheVariants.{Dense, Compressed}
use Rattle.sam_model.specs.declared.tensors.Tensor.{Tensor}
use Rattle.sam_model.specs.declared.tensors.Entries.{Entries}
use Rattle.sam_model.specs.Lists.{total, items_at, tuples, same_list, smaller}

-- a tensor as it is stored: each level's format and size, and the entries with their coordinates in storage order
pub record Stored : Type 0 where
  pub formats : List Format
  pub sizes : List ℕ
  pub entries : List (List ℕ × ℕ)

-- each entry: its coordinates, by mode, and its value
abbrev pub entry_list : ℕ → List ℕ → List ℕ → List (List ℕ × ℕ)
entry_list arity coords [] = []
entry_list arity coords (v ∷ values) = (take arity coords, v) ∷ entry_list arity (drop arity coords) values

abbrev pub stored_as : Tensor → Entries → Stored
stored_as t e = record {
  formats = t.formats;
  sizes = items_at t.dims t.order;
  entries = map (λ entry. (items_at entry.0 t.order, entry.1)) (entry_list e.arity e.coords e.values);
}

-- the number, from 1, of the last compressed level among the first k, or 0
abbrev pub compressed_until : ℕ → List Format → ℕ
compressed_until zero formats = 0
compressed_until (suc k) [] = 0
compressed_until (suc k) (Dense ∷ formats) = cond (eqb (compressed_until k formats) 0) 0 (suc (compressed_until k formats))
compressed_until (suc k) (Compressed ∷ formats) = suc (compressed_until k formats)

-- A prefix is stored where an entry agrees with it up to its last compressed level. Where it has none, all levels are
-- dense and it is stored without an entry.
abbrev pub is_stored : Stored → List ℕ → Bool
is_stored a p =
    let q = compressed_until (length p) a.formats in
    eqb q 0 || list_any (λ entry. same_list (take q entry.0) (take q p)) a.entries

-- the sum of the values of all entries at c, modulo 2^64
abbrev pub value_at : Stored → List ℕ → ℕ
value_at a c = total (λ entry. cond (same_list entry.0 c) entry.1 0) a.entries % 2 ^ 64

-- the stored prefixes of length k, ascending
abbrev pub stored_prefixes : Stored → ℕ → List (List ℕ)
stored_prefixes a k = filter (is_stored a) (tuples (take k a.sizes))

-- all of its coordinates that are stored, ascending, with their values
abbrev pub stored_entries : Stored → List (List ℕ × ℕ)
stored_entries a = map (λ x. (x, value_at a x)) (stored_prefixes a (length a.sizes))

-- the number of smaller stored prefixes of the same length
abbrev pub rank_of : Stored → List ℕ → ℕ
rank_of a p = length (filter (λ q. smaller q p) (stored_prefixes a (length p)))
