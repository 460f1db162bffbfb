use Rattle.std.proofs.Common.{sym, ap, ◌∙◌}
use Rattle.sam_model.specs.declared.expressions.Expr.{Expr}
use Rattle.sam_model.specs.Trees.{tree_of}
use Rattle.sam_model.specs.Lists.{is_in}
use Rattle.sam_model.specs.Scopes.{free_vars}
use Rattle.expand.proofs.Equal.{free-other, free-same}
use Rattle.expand.proofs.scopes.+has_free.Goals as goal

pub returns-then-var-from : goal.returns-then-var-from
returns-then-var-from t c = free-other c.args.var c.in-Sum.over (tree_of c.in-Sum.body.value) (λ e. c.if-var-from.true (e ∙ sym c.from.ensures)) c.has_free-then-var-from.result
    (c.has_free-then-var-from.ensures ∙ ap (λ (e : Expr). is_in c.args.var (free_vars (tree_of e))) c.deref-then-var-from.ensures)
    ∙ ap (λ (e : Expr). is_in c.args.var (free_vars (tree_of e))) (sym c.in-Sum.is)

pub returns-else-var-from : goal.returns-else-var-from
returns-else-var-from t c = free-same c.args.var c.in-Sum.over (tree_of c.in-Sum.body.value) c.from.result c.if-var-from.false c.from.ensures
    ∙ ap (λ (e : Expr). is_in c.args.var (free_vars (tree_of e))) (sym c.in-Sum.is)
