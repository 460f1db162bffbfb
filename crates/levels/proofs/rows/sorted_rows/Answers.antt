-- Both ways give the entries in order.
use Rattle.std.proofs.Common.{length, ap, sym, subst, List}
use mathlib.Core.List.{map}
use Rattle.std.specs.Prelude.{IfSome}
use Rattle.levels.specs.declared.rows.Row.{Row}
use Rattle.levels.specs.Keys.{AreInOrder}
use Rattle.levels.specs.Rows.{row_entry}
use Rattle.levels.proofs.KeyLemmas.{in-order}
use Rattle.levels.proofs.rows.sorted_rows.Goals as goal
use Rattle.levels.proofs.rows.sorted_rows.Goals.{in-Some, in-None+in_ok-rows-in-None}

pub returns-clause-sorted : goal.returns-clause-sorted
returns-clause-sorted c =
    let t = c.args.t.now in
    let e = c.args.entries.now in
    let made : AreInOrder t e (map (row_entry (length t.order)) c.match-branch-2.rows.items) = elim c.match-branch-2.branch [
      | in-Some w ↦
          let settled : AreInOrder t e (map (row_entry (length t.order)) w.in-Some.rows.items)
          = subst (λ o. IfSome o (λ rows. AreInOrder t e (map (row_entry (length t.order)) rows.items))) w.in-Some.is c.in_ok-rows.ensures in
          subst (λ (rows : List Row). AreInOrder t e (map (row_entry (length t.order)) rows)) (ap (λ v. v.items) (sym w.rows-is)) settled
      | in-None+in_ok-rows-in-None w ↦ subst (λ (rows : List Row). AreInOrder t e (map (row_entry (length t.order)) rows)) (ap (λ v. v.items) (sym w.rows-is)) w.in_ok-rows-in-None.ensures
    ] in
    in-order t e c.requires.storable c.requires.matches (map (row_entry (length t.order)) c.match-branch-2.rows.items) made
