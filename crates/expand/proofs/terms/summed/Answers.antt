use Rattle.std.proofs.Common.{arith, rules, ◌≡◌, ◌<◌, true, false, length, set, get_or, sym, ap, ◌∙◌}
use mathlib.Core.List.{map}
use Rattle.sam_model.specs.declared.program.Term.{Term}
use Rattle.sam_model.specs.Expressions.{summed_term}
use Rattle.expand.specs.Counting.{is_long, have_long}
use Rattle.expand.proofs.MapInPlace.{partly-at, partly-more, none-more, some-at}
use Rattle.expand.proofs.terms.summed.Goals as goal

pub returns-in_err-sum_term-clause-long : goal.returns-in_err-sum_term-clause-long
returns-in_err-sum_term-clause-long c =
    let f : Term → Term = summed_term c.args.sizes.now c.args.var in
    let inside : c.loop-term.term-index < length c.loop-term.term-items = omega arith in
    let at = partly-at f c.deref_mut-term-items.result.now c.loop-term.term-items c.loop-term.term-index c.term-item.result inside c.loop-term.invariant.changed in
    λ h.
    let e : is_long (f (get_or c.loop-term.term-items c.loop-term.term-index c.term-item.result)) ≡ true = search rules in
    let g : have_long (map f c.deref_mut-term-items.result.now) ≡ true =
    some-at f is_long c.deref_mut-term-items.result.now c.loop-term.term-index c.term-item.result at.0 (ap (λ (t : Term). is_long (f t)) (sym at.1) ∙ e) in
    cc (g, c.deref_mut-term-items.ensures.value)

pub loop-term-preserved : goal.loop-term-preserved
loop-term-preserved c =
    let f : Term → Term = summed_term c.args.sizes.now c.args.var in
    let inside : c.loop-term.term-index < length c.loop-term.term-items = omega arith in
    let at = partly-at f c.deref_mut-term-items.result.now c.loop-term.term-items c.loop-term.term-index c.term-item.result inside c.loop-term.invariant.changed in
    let e : is_long (f (get_or c.loop-term.term-items c.loop-term.term-index c.term-item.result)) ≡ false = search rules in
    record {
      changed = ap (λ (t : Term). set c.loop-term.term-items c.loop-term.term-index t) c.in_ok-sum_term.ensures.made
          ∙ partly-more f c.deref_mut-term-items.result.now c.loop-term.term-items c.loop-term.term-index c.term-item.result inside c.loop-term.invariant.changed;
      short = none-more f is_long c.deref_mut-term-items.result.now c.loop-term.term-index c.term-item.result at.0
          (ap (λ (t : Term). is_long (f t)) (sym at.1) ∙ e) c.loop-term.invariant.short;
    }
