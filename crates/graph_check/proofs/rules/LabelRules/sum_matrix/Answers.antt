use Rattle.std.proofs.Common.{add-one, refl}
use Rattle.graph_check.proofs.rules.LabelRules.sum_matrix.Goals as goal

pub returns : goal.returns
returns c =
    rw (
      c.is_reduction.ensures,
      c.are_rows-ports.ensures,
      c.are_same.ensures,
      c.reduced-rows.ensures,
      c.reduced-coordinates.ensures,
      c.reduced-sums.ensures,
      c.saturating_sub-4.ensures,
      c.saturating_sub-3.ensures,
      c.saturating_sub-2.ensures,
      c.saturating_sub.ensures,
      c.saturating_sub-n.ensures,
      c.loops.ensures.count,
      c.saturating_sub-g.ensures,
      c.tree_gone-gone.ensures,
      c.tree_term-t.ensures,
      c.at_port-tree.ensures,
      add-one,
    ) refl
