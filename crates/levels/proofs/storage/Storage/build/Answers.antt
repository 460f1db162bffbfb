-- What was made of the sorted rows is what the entries denote.
use Rattle.std.proofs.Common.{◌^◌, ◌<◌, ◌≤◌, length, sym, ◌∙◌, subst, List, ℕ, rules}
use Rattle.std.specs.List.Sorted.{IsPermutation}
use Rattle.std.proofs.lemmas.List.{length-map}
use Rattle.sam_model.specs.Tensors.{stored_as}
use Rattle.levels.specs.declared.rows.Row.{Row}
use Rattle.levels.specs.Placed.{InOrder}
use Rattle.levels.specs.Rows.{row_entry, of_rows}
use Rattle.levels.proofs.ConditionLemmas.{storable, matches}
use Rattle.levels.proofs.FinalLemmas.{placed-length, made-prefixes, made-ranked}
use Rattle.levels.proofs.storage.Storage.build.Goals as goal

pub sorted_rows-requires : goal.sorted_rows-requires
sorted_rows-requires c = record {
  storable = storable c.args.t.now c.requires.tensor;
  matches = matches c.args.t.now c.args.entries.now c.requires.arity c.requires.whole c.requires.in_range;
}

pub all_levels-requires-clause-storable : goal.all_levels-requires-clause-storable
all_levels-requires-clause-storable c = storable c.args.t.now c.requires.tensor

pub values_at-requires : goal.values_at-requires
values_at-requires c = record {
  all = placed-length (of_rows c.args.t.now c.as_slice-rows.result.now) (length c.args.t.now.order) c.in_ok-levels.at.count c.in_ok-levels.at.ranks.items c.in_ok-levels.ensures.placed
      ∙ length-map c.as_slice-rows.result.now (row_entry (length c.args.t.now.order));
  inside = c.in_ok-levels.ensures.placed.ranked;
}

pub returns-clause-stored : goal.returns-clause-stored
returns-clause-stored c =
    let same = subst (λ (rows : List Row). IsPermutation (stored_as c.args.t.now c.args.entries.now).entries (of_rows c.args.t.now rows).entries) (sym c.as_slice-rows.ensures.value) c.in_ok-sorted.ensures.same in
    let order = subst (λ (rows : List Row). InOrder (of_rows c.args.t.now rows)) (sym c.as_slice-rows.ensures.value) c.in_ok-sorted.ensures.sorted in
    made-ranked c.args.t.now c.args.entries.now c.as_slice-rows.result.now same c.in_ok-levels.levels.items c.in_ok-values.values.items c.in_ok-levels.at.count c.in_ok-levels.at.ranks.items
    order c.in_ok-levels.ensures.children c.in_ok-levels.ensures.counts c.in_ok-levels.ensures.placed c.in_ok-values.ensures

pub returns-clause-few : goal.returns-clause-few
returns-clause-few c =
    let same = subst (λ (rows : List Row). IsPermutation (stored_as c.args.t.now c.args.entries.now).entries (of_rows c.args.t.now rows).entries) (sym c.as_slice-rows.ensures.value) c.in_ok-sorted.ensures.same in
    λ k h. subst (λ (ps : List (List ℕ)). length ps ≤ 2 ^ 24) (sym (made-prefixes c.args.t.now c.args.entries.now c.as_slice-rows.result.now same k)) (c.in_ok-levels.ensures.few k h)

pub returns-in_err-levels-clause-many : goal.returns-in_err-levels-clause-many
returns-in_err-levels-clause-many c =
    let same = subst (λ (rows : List Row). IsPermutation (stored_as c.args.t.now c.args.entries.now).entries (of_rows c.args.t.now rows).entries) (sym c.as_slice-rows.ensures.value) c.in_ok-sorted.ensures.same in
    λ e. let many = c.in_err-levels.ensures.many (search rules) in
    (many.0, many.1, subst (λ (ps : List (List ℕ)). 2 ^ 24 < length ps) (sym (made-prefixes c.args.t.now c.args.entries.now c.as_slice-rows.result.now same many.0)) many.2)
