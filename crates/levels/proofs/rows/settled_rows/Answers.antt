-- The rows are the entries, and the sort only moves them.
use Rattle.std.proofs.Common.{◌+◌, ◌≡◌, ◌∙◌, take, length, arith, ap, sym, subst, List, ℕ, rules}
use mathlib.Core.List.{map}
use Rattle.std.specs.Ordering.{is_lt, nat_cmp}
use Rattle.std.specs.Cmp.Lexicographic.{slice_cmp, lists_total}
use Rattle.std.specs.Cmp.{nat_cmp_total}
use Rattle.std.specs.List.Sorted.{IsPermutation}
use Rattle.std.specs.Vec.{with_items}
use Rattle.std.proofs.lemmas.List.{take_all, with_items_is}
use Rattle.std.proofs.lemmas.List.Sorted.{IsPermutation-map, IsPermutation-trans, length_permutation, answers_always, ranks_by}
use Rattle.sam_model.specs.Tensors.{stored_as}
use Rattle.levels.specs.declared.rows.Row.{Row}
use Rattle.levels.specs.Rows.{row_entry}
use Rattle.levels.proofs.EntryLemmas.{length-stored}
use Rattle.levels.proofs.SortLemmas.{one-more, sorted-entries}
use Rattle.levels.proofs.rows.settled_rows.Goals as goal

pub loop-n-preserved : goal.loop-n-preserved
loop-n-preserved c =
    let t = c.args.t.now in
    let e = c.args.entries.now in
    let all : length (stored_as t e).entries ≡ length e.values = length-stored t e in
    let pushed : IsPermutation (take (c.loop-n.n + 1) (stored_as t e).entries) (map (row_entry (length t.order)) c.push.new.self.items)
    = one-more (row_entry (length t.order)) (stored_as t e).entries c.loop-n.n c.loop-n.rows.items c.row_at.result c.push.new.self.items (omega arith) c.loop-n.invariant c.row_at.ensures c.in_ok-push.ensures.items in
    let moved : IsPermutation c.push.new.self.items (with_items c.push.new.self c.settle.new.rows).items
    =
    let written = with_items_is c.push.new.self c.settle.new.rows (length_permutation c.as_mut_slice.result.now c.settle.new.rows c.settle.ensures ∙ c.as_mut_slice.ensures.len) in
    subst (λ (before : List Row). IsPermutation before (with_items c.push.new.self c.settle.new.rows).items) c.as_mut_slice.ensures.value
    (subst (λ (after : List Row). IsPermutation c.as_mut_slice.result.now after) (sym written) c.settle.ensures) in
    IsPermutation-trans (take (c.loop-n.n + 1) (stored_as t e).entries) (map (row_entry (length t.order)) c.push.new.self.items) (map (row_entry (length t.order)) (with_items c.push.new.self c.settle.new.rows).items)
    pushed (IsPermutation-map (row_entry (length t.order)) c.push.new.self.items (with_items c.push.new.self c.settle.new.rows).items moved)

pub returns : goal.returns
returns c =
    let t = c.args.t.now in
    let e = c.args.entries.now in
    let all : length (stored_as t e).entries ≡ length e.values = length-stored t e in
    let entries : take c.loop-n.n (stored_as t e).entries ≡ (stored_as t e).entries = take_all c.loop-n.n (stored_as t e).entries (omega arith) in
    record {
      same = IsPermutation-trans (stored_as t e).entries (map (row_entry (length t.order)) c.loop-n.rows.items) (map (row_entry (length t.order)) c.sort_by.new.self.items)
          (subst (λ (es : List (List ℕ × ℕ)). IsPermutation es (map (row_entry (length t.order)) c.loop-n.rows.items)) entries c.loop-n.invariant)
          (IsPermutation-map (row_entry (length t.order)) c.loop-n.rows.items c.sort_by.new.self.items c.in_ok-sort_by.ensures.permutation);
      sorted = sorted-entries (length t.order) c.sort_by.new.self.items
          (c.in_ok-sort_by.ensures.sorted (λ (x y : Row). is_lt (slice_cmp nat_cmp x.coordinates y.coordinates)) (ranks_by (lists_total nat_cmp_total) (λ (row : Row). row.coordinates)) (answers_always _ _ _ (λ f a r g h. ap is_lt (search rules))));
    }
