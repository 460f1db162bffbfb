use Rattle.std.proofs.Common.{add-one, refl}
use Rattle.graph_check.proofs.rules.LabelRules.drop_fiber.Goals as goal

pub returns : goal.returns
returns c =
    rw (
      c.is_term.ensures,
      c.are_nested.ensures,
      c.are_same.ensures,
      c.reduced-below.ensures,
      c.reduced.ensures,
      c.reduced-2.ensures,
      c.free-g.ensures.count,
      c.tree_level-f.ensures,
      c.tree_term-t.ensures,
      c.at_port-tree.ensures,
      c.requires.levels,
      add-one,
    ) refl
