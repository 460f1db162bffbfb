use Rattle.std.proofs.Common.{rules, ◌≡◌, true, false, ◌||◌, ap, ap₂, ◌∙◌}
use Rattle.std.proofs.lemmas.Bool.{or_right}
use mathlib.Core.List.{map}
use Rattle.sam_model.specs.declared.expressions.Expr.{Expr}
use Rattle.sam_model.specs.Trees.{tree_of}
use Rattle.sam_model.specs.Expressions.{turned_term, expanded}
use Rattle.expand.specs.Counting.{have_long}
use Rattle.expand.proofs.Lengths.{some-expanded, long-append, long-turned, long-left, long-right, long-summed}
use Rattle.expand.proofs.terms.+terms_of.Goals as goal

pub returns-in_err-lefts-in-Times-clause-long : goal.returns-in_err-lefts-in-Times-clause-long
returns-in_err-lefts-in-Times-clause-long t c = λ h.
    let e : have_long (expanded c.args.sizes.now (tree_of c.in-Times.a.value)) ≡ true = search rules in
    ap (λ (x : Expr). have_long (expanded c.args.sizes.now (tree_of x))) c.in-Times.is
    ∙ long-left (expanded c.args.sizes.now (tree_of c.in-Times.a.value)) (expanded c.args.sizes.now (tree_of c.in-Times.b.value)) (some-expanded c.args.sizes.now (tree_of c.in-Times.b.value)) e

pub returns-in_err-terms_of-in-Times-clause-long : goal.returns-in_err-terms_of-in-Times-clause-long
returns-in_err-terms_of-in-Times-clause-long t c = λ h.
    let e : have_long (expanded c.args.sizes.now (tree_of c.in-Times.b.value)) ≡ true = search rules in
    ap (λ (x : Expr). have_long (expanded c.args.sizes.now (tree_of x))) c.in-Times.is
    ∙ long-right (expanded c.args.sizes.now (tree_of c.in-Times.a.value)) (expanded c.args.sizes.now (tree_of c.in-Times.b.value)) (some-expanded c.args.sizes.now (tree_of c.in-Times.a.value)) e

pub returns-in_err-terms_of-in-Minus-clause-long : goal.returns-in_err-terms_of-in-Minus-clause-long
returns-in_err-terms_of-in-Minus-clause-long t c = λ h.
    let e : have_long (expanded c.args.sizes.now (tree_of c.in-Minus.b.value)) ≡ true = search rules in
    ap (λ (x : Expr). have_long (expanded c.args.sizes.now (tree_of x))) c.in-Minus.is
    ∙ long-append (expanded c.args.sizes.now (tree_of c.in-Minus.a.value)) (map turned_term (expanded c.args.sizes.now (tree_of c.in-Minus.b.value)))
    ∙ or_right (have_long (expanded c.args.sizes.now (tree_of c.in-Minus.a.value))) (have_long (map turned_term (expanded c.args.sizes.now (tree_of c.in-Minus.b.value))))
    (long-turned (expanded c.args.sizes.now (tree_of c.in-Minus.b.value)) ∙ e)

pub returns-in_err-terms_of-in-Negate-clause-long : goal.returns-in_err-terms_of-in-Negate-clause-long
returns-in_err-terms_of-in-Negate-clause-long t c = λ h.
    let e : have_long (expanded c.args.sizes.now (tree_of c.in-Negate.body.value)) ≡ true = search rules in
    ap (λ (x : Expr). have_long (expanded c.args.sizes.now (tree_of x))) c.in-Negate.is ∙ long-turned (expanded c.args.sizes.now (tree_of c.in-Negate.body.value)) ∙ e

pub returns-in_err-terms_of-in-Sum-clause-long : goal.returns-in_err-terms_of-in-Sum-clause-long
returns-in_err-terms_of-in-Sum-clause-long t c = λ h.
    let e : have_long (expanded c.args.sizes.now (tree_of c.in-Sum.body.value)) ≡ true = search rules in
    ap (λ (x : Expr). have_long (expanded c.args.sizes.now (tree_of x))) c.in-Sum.is
    ∙ long-summed c.args.sizes.now c.in-Sum.var (expanded c.args.sizes.now (tree_of c.in-Sum.body.value)) e

pub returns-in_ok-both-in-Minus-clause-short : goal.returns-in_ok-both-in-Minus-clause-short
returns-in_ok-both-in-Minus-clause-short t c = λ h.
    let d : have_long (expanded c.args.sizes.now (tree_of c.in-Minus.a.value)) ≡ false = search rules in
    let e : have_long (expanded c.args.sizes.now (tree_of c.in-Minus.b.value)) ≡ false = search rules in
    ap (λ (x : Expr). have_long (expanded c.args.sizes.now (tree_of x))) c.in-Minus.is
    ∙ long-append (expanded c.args.sizes.now (tree_of c.in-Minus.a.value)) (map turned_term (expanded c.args.sizes.now (tree_of c.in-Minus.b.value)))
    ∙ ap₂ (λ x y. x || y) d (long-turned (expanded c.args.sizes.now (tree_of c.in-Minus.b.value)) ∙ e)

pub returns-in_ok-terms_of-in-Negate-clause-short : goal.returns-in_ok-terms_of-in-Negate-clause-short
returns-in_ok-terms_of-in-Negate-clause-short t c = λ h.
    let e : have_long (expanded c.args.sizes.now (tree_of c.in-Negate.body.value)) ≡ false = search rules in
    ap (λ (x : Expr). have_long (expanded c.args.sizes.now (tree_of x))) c.in-Negate.is ∙ long-turned (expanded c.args.sizes.now (tree_of c.in-Negate.body.value)) ∙ e
