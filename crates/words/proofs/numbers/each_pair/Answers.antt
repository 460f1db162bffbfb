use Rattle.std.proofs.Common.{sym, ap, subst, ◌∙◌, ◌∷◌, [], Some}
use Rattle.std.proofs.lemmas.List.Elements.{All-append, All-cons, All-nil}
use Rattle.std.specs.Borrow.{Bor}
use Rattle.std.specs.Prelude.{List, ℕ, All}
use Rattle.words.specs.Asked.{pair_of, IsCapacityGiven}
use Rattle.words.proofs.PairLemmas.{all_read-more, all_read-none}
use Rattle.words.proofs.numbers.each_pair.Goals as goal

pub returns-in-None-clause-read : goal.returns-in-None-clause-read
returns-in-None-clause-read c =
    sym (all_read-none (λ (part : Bor (List ℕ)). pair_of part.now) c.args.parts.now c.loop-part.part-index _ c.loop-part-test.true (sym c.pair.ensures.read ∙ c.in-None.is))

pub loop-part-preserved : goal.loop-part-preserved
loop-part-preserved c = record {
  read =
      all_read-more (λ (part : Bor (List ℕ)). pair_of part.now) c.args.parts.now c.loop-part.part-index _ c.loop-part.pairs.items c.in-Some.pair
      c.loop-part-test.true c.loop-part.invariant.read (sym c.pair.ensures.read ∙ c.in-Some.is)
      ∙ ap Some (sym c.in_ok-push-in-Some.ensures.items);
  bounded =
      let capacity_fits = λ (pair : ℕ × ℕ). IsCapacityGiven pair.1 in
      let fits : IsCapacityGiven c.in-Some.pair.1 = c.in-Some.ensures.bounded in
      subst (All capacity_fits) (sym c.in_ok-push-in-Some.ensures.items)
      (All-append capacity_fits c.loop-part.pairs.items (c.in-Some.pair ∷ []) c.loop-part.invariant.bounded
      (All-cons capacity_fits c.in-Some.pair [] fits (All-nil capacity_fits)));
}
