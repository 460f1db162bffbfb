use Rattle.std.proofs.Common.{sym, ◌∙◌, ap, ◌++◌}
use Rattle.stream_tokens.specs.Texts.{token_bytes}
use Rattle.stream_tokens.proofs.Joined.{text-done, text-more}
use Rattle.stream_tokens.proofs.text.stream_text.Goals as goal

pub loop-t-preserved : goal.loop-t-preserved
loop-t-preserved c =
    text-more _ _ _ _ c.in-Some.others.now c.loop-t.t-index _ c.loop-t.invariant c.loop-t-test.true c.in_ok-push.ensures.ok
    c.in_ok-append_token-2.ensures

pub returns : goal.returns
returns c =
    text-done _ _ c.in-Some.field-0-0.now c.in-Some.others.now _ c.loop-t.t-index c.loop-t.invariant
    (c.in_ok-append_token.ensures ∙ ap (λ x. x ++ token_bytes c.in-Some.field-0-0.now) c.new-text.ensures)
    (sym c.as_slice.ensures ∙ c.in-Some.ensures.cases.0) c.loop-t-test.false
