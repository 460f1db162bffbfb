use Rattle.std.proofs.Common.{add-one, arith, sym, refl}
use Rattle.graph_check.proofs.Merging.{other-number, sides-apart}
use Rattle.graph_check.proofs.rules.LabelRules.intersect.Goals as goal

pub returns-then-ins-left : goal.returns-then-ins-left
returns-then-ins-left c =
    sym (other-number c.args.self.now.program.now c.args.left c.args.right c.args.ins.now c.args.outs.now c.if-ins-left.true)

pub returns : goal.returns
returns c =
    rw (
      c.is_term.ensures,
      c.is_side.ensures,
      c.is_side-2.ensures,
      c.are_met-met.ensures,
      c.references.ensures,
      c.references-2.ensures,
      c.tree_mask-ours_mask.ensures,
      c.tree_mask-theirs_mask.ensures,
      c.at_port.ensures,
      c.at_port-2.ensures,
      c.split_at.ensures.front,
      c.split_at.ensures.back,
      c.tree_term-term.ensures,
      c.tree_level-level.ensures,
      c.at_port-tree.ensures,
      add-one,
    ) (sides-apart c.args.self.now.program.now c.args.left c.args.right _ c.args.ins.now c.args.outs.now (omega arith) refl)
