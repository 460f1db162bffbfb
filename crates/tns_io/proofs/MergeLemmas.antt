-- The values of paths, as they are merged with what is found.
use Rattle.std.proofs.Common.{◌≡◌, ℕ, List, [], ◌∷◌, ◌++◌, length, refl, append_assoc}
use mathlib.Core.List.{map}
use Rattle.sam_base.specs.Each.{Each}
use Rattle.sam_model.specs.Tensors.{entry_list}
use Rattle.tns_io.specs.Closing.{merged, value_among}
use Rattle.tns_io.specs.Rows.{joined}
use Rattle.tns_io.proofs.RowLemmas.{front-of, behind}

abbrev pub values_of : List (List ℕ × ℕ) → List ℕ
values_of entries = map (λ entry. entry.1) entries

-- the value of the next path
pub value-merged : (x : List ℕ) (xs : List (List ℕ)) (es left : List (List ℕ × ℕ)) (v : ℕ) (before after : List ℕ) → v ≡ (value_among x es).0 → left ≡ (value_among x es).1 → after ≡ before ++ v ∷ []
    → after ++ values_of (merged xs left) ≡ before ++ values_of (merged (x ∷ xs) es)
value-merged x xs es left v before after value rest more =
    rw (more, value, rest) (append_assoc before ((value_among x es).0 ∷ []) (values_of (merged xs (value_among x es).1)))

-- the paths of one length and their values are the entries
pub merged-entries : (long : ℕ) (xs : List (List ℕ)) (es : List (List ℕ × ℕ)) → Each (λ x. length x ≡ long) xs → entry_list long (joined xs) (values_of (merged xs es)) ≡ merged xs es
merged-entries long [] es h = refl
merged-entries long (x ∷ xs) es h =
    rw (front-of long x (joined xs) h.0, behind long x (joined xs) h.0, merged-entries long xs (value_among x es).1 h.1) refl
