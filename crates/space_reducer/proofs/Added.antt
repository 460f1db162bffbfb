-- A value added at a coordinate of an ordered map.
use Rattle.std.proofs.Common.{◌≡◌, ℕ, List, None, sym, ◌∙◌, ap}
use Rattle.std.specs.Ordering.{nat_cmp}
use Rattle.std.specs.List.Sorted.{IsStrictlySortedBy}
use Rattle.std.specs.Map.{lookup, keys_of}
use Rattle.std.specs.BTreeMap.{insert_entry, is_at}
use Rattle.std.specs.Option.{unwrap_or}
use Rattle.stream_tokens.specs.Nest.{Leaf}
use Rattle.block_core.specs.Arithmetic.{combined_leaf, Plus}
use Rattle.block_core.specs.Gather.{add_at}
use Rattle.block_core.proofs.Sums.{plus-nothing}
use Rattle.space_reducer.proofs.Changed.{add-changes}
use Rattle.space_reducer.proofs.Ordered.{insert-changes, ascends-sorted}

-- the sum with what was there, put there, is the value added
pub inserted-adds : (c : ℕ) (v : Leaf) (es now : List (ℕ × Leaf)) → IsStrictlySortedBy nat_cmp (keys_of es) → es ≡ now
    → insert_entry nat_cmp es c (combined_leaf Plus v (unwrap_or (lookup (is_at (nat_cmp c)) es) None)) ≡ add_at (combined_leaf Plus) c v now
inserted-adds c v es now s e =
    insert-changes None (combined_leaf Plus v) c es (ascends-sorted es s)
    ∙ sym (add-changes None (combined_leaf Plus) plus-nothing c v es)
    ∙ ap (add_at (combined_leaf Plus) c v) e
