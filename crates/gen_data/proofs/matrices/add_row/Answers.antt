use Rattle.std.proofs.Common.{◌∙◌, ◌++◌, ap, [], ◌∷◌, List, ℕ}
use Rattle.gen_data.specs.Workload.{entry_of}
use Rattle.gen_data.proofs.RowLemmas.{coords_more, values_more}
use Rattle.gen_data.proofs.matrices.add_row.Goals as goal

pub loop-s-preserved : goal.loop-s-preserved
loop-s-preserved c =
    let f = entry_of c.args.matrix c.args.n c.args.row in
    let column = c.entry-column.result.0 in
    let value = c.entry-column.result.1 in
    record {
      coords =
          c.in_ok-push-2.ensures.items
          ∙ ap (λ (l : List ℕ). l ++ column ∷ []) c.in_ok-push.ensures.items
          ∙ coords_more f c.loop-s.s c.args.row column value c.entry-column.ensures c.loop-s.coords.items c.args.coords.now.items c.loop-s.invariant.coords;
      values =
          c.in_ok-push-3.ensures.items
          ∙ values_more f c.loop-s.s c.args.row column value c.entry-column.ensures c.loop-s.values.items c.args.values.now.items c.loop-s.invariant.values;
    }
