use Rattle.std.proofs.Common.{arith, ap, ◌∙◌}
use Rattle.std.specs.List.{position_or_len}
use Rattle.std.proofs.lemmas.List.{take_rest}
use Rattle.sam_text.specs.Bytes.{is_newline}
use Rattle.sam_text.proofs.PlaceLemmas.{line_in_text, line_there, line_there_last}
use Rattle.sam_text.proofs.places.line_at.Goals as goal

pub overflow_add-end : goal.overflow_add-end
overflow_add-end c = let h = line_in_text c.args.text.now c.args.from c.line_length.result c.requires (c.line_length.ensures ∙ ap (λ bs. position_or_len is_newline bs) (take_rest c.args.text.now c.args.from)) in omega arith

pub returns-then-end-text-clause-line : goal.returns-then-end-text-clause-line
returns-then-end-text-clause-line c = λ h. line_there c.args.text.now c.args.from c.line_length.result c.requires (c.line_length.ensures ∙ ap (λ bs. position_or_len is_newline bs) (take_rest c.args.text.now c.args.from)) h

pub returns-else-end-text-clause-next : goal.returns-else-end-text-clause-next
returns-else-end-text-clause-next c = let h = line_in_text c.args.text.now c.args.from c.line_length.result c.requires (c.line_length.ensures ∙ ap (λ bs. position_or_len is_newline bs) (take_rest c.args.text.now c.args.from)) in omega arith

pub returns-else-end-text-clause-line : goal.returns-else-end-text-clause-line
returns-else-end-text-clause-line c = λ h. line_there_last c.args.text.now c.args.from c.line_length.result c.requires (c.line_length.ensures ∙ ap (λ bs. position_or_len is_newline bs) (take_rest c.args.text.now c.args.from)) h (omega arith)

pub returns-else-end-text-clause-in_text : goal.returns-else-end-text-clause-in_text
returns-else-end-text-clause-in_text c = line_in_text c.args.text.now c.args.from c.line_length.result c.requires (c.line_length.ensures ∙ ap (λ bs. position_or_len is_newline bs) (take_rest c.args.text.now c.args.from))
