use Rattle.std.proofs.Common.{◌≡◌}
use Rattle.sam_model.specs.Expressions.{turned_term}
use Rattle.expand.proofs.MapInPlace.{partly}
use Rattle.expand.proofs.terms.turned.Given as goal

abbrev pub invariant-loop-term : goal.invariant-loop-term
invariant-loop-term l = l.term-items ≡ partly turned_term l.term-index l.initial.term-items
