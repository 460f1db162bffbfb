use Rattle.std.proofs.Common.{◌∙◌, ◌<◌, ℕ, List, [], ◌∷◌, ◌++◌, length, ap, arith, append_assoc}
use Rattle.std.proofs.lemmas.Result.{IfOk-weaker}
use Rattle.traces.proofs.LineLemmas.{spaced-stream}
use Rattle.traces.proofs.lines.append_tokens.Goals as goal

pub returns : goal.returns
returns c =
    let text = c.args.text.now in
    let tokens = c.args.tokens.now in
    let bytes = c.as_bytes-2.result.now in
    let long : 0 < length tokens = omega (arith, c.if-len-eq0.false, c.len.ensures) in
    IfOk-weaker c.append.result _ _
    (λ _ is.
    is
    ∙ ap (λ (head : List ℕ). head ++ bytes) c.in_ok-push.ensures.ok
    ∙ append_assoc text (32 ∷ []) bytes
    ∙ ap (λ (shown : List ℕ). text ++ 32 ∷ shown) (c.as_bytes-2.ensures ∙ c.in_ok-stream_text.ensures)
    ∙ ap (λ (shown : List ℕ). text ++ shown) (spaced-stream tokens long))
    c.append.ensures.ok
