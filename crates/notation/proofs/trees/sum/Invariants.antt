use Rattle.std.proofs.Common.{◌≡◌, length}
use Rattle.std.specs.Prelude.{option_map}
use Rattle.notation.specs.Trees.{text_tree, sum_of, sum_onto}
use Rattle.notation.proofs.trees.sum.Given as goal

-- what was made so far, with what is left, is the whole
abbrev pub invariant-loop-term : goal.invariant-loop-term
invariant-loop-term l = record {
  can_next : goal.iterator-loop-term.can_next l.term-iterator;
  is_finite : goal.iterator-loop-term.is_finite l.term-iterator;
  len : l.term-iterator.rest.len ≡ length l.term-iterator.rest.items;
  whole : sum_onto (option_map text_tree l.sum) l.term-iterator.rest.items ≡ sum_of l.fn.terms;
}
