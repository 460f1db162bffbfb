use Rattle.std.proofs.Common.{◌≡◌, ◌∙◌, ◌++◌, ◌+◌, ℕ, List, [], get_or, ap, sym, append_assoc}
use Rattle.std.proofs.lemmas.Option.{get_or_from_slice_get}
use Rattle.stream_tokens.specs.declared.Token.{Token}
use Rattle.traces.specs.Traces.{channel_line}
use Rattle.traces.proofs.LineLemmas.{lines_from, lines-next}
use Rattle.traces.proofs.lines.channel_lines.Goals as goal

pub loop-channel-preserved : goal.loop-channel-preserved
loop-channel-preserved c =
    let text = c.loop-channel.text in
    let channel = c.loop-channel.channel in
    let kept = c.args.kept.now in
    let tokens = λ (d : ℕ). get_or kept d [] in
    let rest : List ℕ = lines_from (channel + 1) c.args.channels tokens in
    let here : get_or kept channel [] ≡ c.stream.result.now =
    get_or_from_slice_get kept channel c.stream.result.now [] c.stream.ensures in
    ap (λ (made : List ℕ). made ++ rest)
    (c.in_ok-append_line.ensures ∙ ap (λ (put : List Token). text ++ channel_line channel put) (sym here))
    ∙ append_assoc text (channel_line channel (tokens channel)) rest
    ∙ ap (λ (lines : List ℕ). text ++ lines) (sym (lines-next channel c.args.channels tokens c.loop-channel-test.true))
    ∙ c.loop-channel.invariant
