use Rattle.std.proofs.Common.{◌≡◌, length}
use Rattle.std.specs.Prelude.{option_map}
use Rattle.notation.specs.Trees.{text_tree, product_of, product_onto}
use Rattle.notation.proofs.trees.product.Given as goal

-- what was made so far, with what is left, is the whole
abbrev pub invariant-loop-expr : goal.invariant-loop-expr
invariant-loop-expr l = record {
  can_next : goal.iterator-loop-expr.can_next l.expr-iterator;
  is_finite : goal.iterator-loop-expr.is_finite l.expr-iterator;
  len : l.expr-iterator.rest.len ≡ length l.expr-iterator.rest.items;
  whole : product_onto (option_map text_tree l.product) l.expr-iterator.rest.items ≡ product_of l.fn.factors;
}
