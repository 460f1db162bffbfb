use Rattle.std.proofs.Common.{◌≡◌, ℕ, List, ◌∷◌, ◌+◌, ◌++◌, ap, sym, ◌∙◌}
use Rattle.tns_io.specs.Closing.{merged}
use Rattle.tns_io.specs.Walks.{listing_from}
use Rattle.tns_io.proofs.MergeLemmas.{values_of, value-merged}
use Rattle.tns_io.proofs.RowLemmas.{rows_left, rows-next}
use Rattle.tns_io.proofs.closing.found.values_of.Goals as goal

pub loop-path-preserved : goal.loop-path-preserved
loop-path-preserved c =
    let w = c.args.w.now in
    let paths = c.args.paths.now in
    let levels = c.args.levels in
    let row = c.loop-path.path in
    let path = c.path.result.now in
    let before = c.loop-path.values in
    let found = listing_from w c.loop-path.found.next in
    let rest = rows_left levels paths.count paths.numbers.items (row + 1) in
    let here : path ∷ rest ≡ rows_left levels paths.count paths.numbers.items row =
    ap (λ (p : List ℕ). p ∷ rest) c.path.ensures.path ∙ sym (rows-next levels paths.count paths.numbers.items row c.loop-path-test.true) in
    record {
      stands = rw c.path.ensures.long at c.value_of.ensures.stands;
      values =
          value-merged path rest found (listing_from w c.value_of.new.self.next) c.value_of.result before c.push.new.self c.value_of.ensures.value c.value_of.ensures.left c.in_ok-push.ensures.ok
          ∙ ap (λ rows. before ++ values_of (merged rows found)) here
          ∙ c.loop-path.invariant.values;
    }
