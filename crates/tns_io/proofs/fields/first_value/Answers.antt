-- A decimal alone is its own value.
use Rattle.std.proofs.Common.{[], ap, sym, ◌∙◌}
use Rattle.tns_io.specs.Fields.{fields_of, with_value}
use Rattle.tns_io.proofs.ValueLemmas.{decimal-value}
use Rattle.tns_io.proofs.fields.first_value.Goals as goal

pub returns-in-Ok-clause-found : goal.returns-in-Ok-clause-found
returns-in-Ok-clause-found c =
    let first = c.in-Some.ensures in
    ap (fields_of []) first.1 ∙ ap with_value (decimal-value first.0 c.in-Some.number first.2 first.3 ∙ sym c.keep.ensures ∙ c.in-Ok.is)
