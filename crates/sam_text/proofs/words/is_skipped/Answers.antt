-- What stands behind the gaps begins the first word.
use Rattle.std.proofs.Common.{sym, ◌∙◌, length}
use Rattle.std.proofs.lemmas.Bool.{eqb-true, eqb-false}
use Rattle.sam_text.proofs.PlaceLemmas.{skipped-none, skipped-some}
use Rattle.sam_text.proofs.words.is_skipped.Goals as goal

pub returns-then-is_empty : goal.returns-then-is_empty
returns-then-is_empty c =
    c.if-is_empty.true
    ∙ sym (skipped-none c.args.line.now c.behind_gaps-rest.result.now c.behind_gaps-rest.ensures (eqb-true (length c.behind_gaps-rest.result.now) 0 (sym c.is_empty.ensures ∙ c.if-is_empty.true)))

pub returns-else-is_empty : goal.returns-else-is_empty
returns-else-is_empty c =
    c.begins_comment.ensures
    ∙ sym (skipped-some c.args.line.now c.behind_gaps-rest.result.now c.behind_gaps-rest.ensures (eqb-false (length c.behind_gaps-rest.result.now) 0 (sym c.is_empty.ensures ∙ c.if-is_empty.false)))
