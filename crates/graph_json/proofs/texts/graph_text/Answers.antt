use Rattle.std.proofs.Common.{ap, ◌∙◌, ◌++◌, ◌∷◌, []}
use Rattle.serde_json.specs.Written.{compact_text, has_float}
use Rattle.graph_json.proofs.DataLemmas.{graph_none}
use Rattle.graph_json.proofs.texts.graph_text.Goals as goal

pub returns : goal.returns
returns c =
    let value = c.in_ok-value.ensures in
    let none = ap has_float value ∙ graph_none c.args.p.now c.args.g.now in
    c.from_vec.ensures ∙ c.in_ok-push.ensures.items ∙ ap (λ l. l ++ 10 ∷ []) (c.in_ok-bytes.ensures.text none ∙ ap compact_text value)
