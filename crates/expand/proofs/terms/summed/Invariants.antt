use Rattle.std.proofs.Common.{◌≡◌, false, take}
use mathlib.Core.List.{map}
use Rattle.sam_model.specs.Expressions.{summed_term}
use Rattle.expand.specs.Counting.{have_long}
use Rattle.expand.proofs.MapInPlace.{partly}
use Rattle.expand.proofs.terms.summed.Given as goal

abbrev pub invariant-loop-term : goal.invariant-loop-term
invariant-loop-term l = record {
  changed : l.term-items ≡ partly (summed_term l.sizes l.var) l.term-index l.initial.term-items;
  short : have_long (map (summed_term l.sizes l.var) (take l.term-index l.initial.term-items)) ≡ false;
}
