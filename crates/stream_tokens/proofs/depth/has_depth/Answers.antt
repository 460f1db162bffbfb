use Rattle.std.proofs.Common.{sym, ◌∙◌, ap, ◌++◌, ◌∷◌, []}
use Rattle.stream_tokens.proofs.Bodies.{depth-is}
use Rattle.stream_tokens.proofs.depth.has_depth.Goals as goal

pub returns : goal.returns
returns c =
    let rest = c.in-Some-Done-default.rest.now in
    let whole = sym c.as_slice.ensures ∙ c.in-Some-Done-default.ensures.cases.0 ∙ ap (λ x. rest ++ x ∷ []) c.in-Some-Done-default.field-0-0-is in
    let w = depth-is c.args.depth c.args.s.now c.in-Some.body.now rest c.in-Some.field-0-0.now whole c.in-Some.ensures.cases.0 in
    (λ r. w.1 (c.ends_well.ensures.0 r), λ h. c.ends_well.ensures.1 (w.0 h))
