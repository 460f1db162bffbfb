use Rattle.std.proofs.Common.{◌≡◌, [], length}
use Rattle.program_file.specs.Chains.{steps_of}
use Rattle.program_file.proofs.StepLemmas.{made_then}
use Rattle.program_file.proofs.chains.steps_of.Given as goal

-- what was made so far, with what is left, is the whole
abbrev pub invariant-loop-group : goal.invariant-loop-group
invariant-loop-group l = record {
  can_next : goal.iterator-loop-group.can_next l.group-iterator;
  is_finite : goal.iterator-loop-group.is_finite l.group-iterator;
  len : l.group-iterator.rest.len ≡ length l.group-iterator.rest.items;
  whole : made_then l.steps (steps_of l.operands.tensors l.operands.scalars l.group-iterator.rest.items) ≡ steps_of l.fn.tensors [] l.fn.groups;
}
