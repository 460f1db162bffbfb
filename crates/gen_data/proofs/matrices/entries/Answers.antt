use Rattle.std.proofs.Common.{◌∙◌}
use Rattle.gen_data.specs.Workload.{row_entries}
use Rattle.gen_data.proofs.RowLemmas.{all_coords_more, all_values_more}
use Rattle.gen_data.proofs.matrices.entries.Goals as goal

pub loop-row-preserved : goal.loop-row-preserved
loop-row-preserved c =
    let rows = row_entries c.args.matrix c.args.n in
    record {
      coords = c.in_ok-add_row.ensures.coords ∙ all_coords_more rows c.loop-row.row c.loop-row.coords.items c.loop-row.invariant.coords;
      values = c.in_ok-add_row.ensures.values ∙ all_values_more rows c.loop-row.row c.loop-row.values.items c.loop-row.invariant.values;
    }
