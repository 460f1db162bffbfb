use Rattle.std.proofs.Common.{subst, ℕ, List}
use Rattle.parts.specs.Parts.{gives}
use Rattle.parts.specs.Answers.{ComesAlways}
use Rattle.runs.specs.Capacities.{capacities_of}
use Rattle.runs.proofs.setup.given_capacities.Goals as goal

pub returns-clause-comes : goal.returns-clause-comes
returns-clause-comes c =
    let options = c.args.options.now in
    let answer = c.channel_capacities.result in
    let channels = c.len.result in
    subst (λ (n : ℕ). ComesAlways (gives (capacities_of n options.capacity options.own)) answer) c.len.ensures
    (subst (λ (own : List (ℕ × ℕ)). ComesAlways (gives (capacities_of channels options.capacity own)) answer) c.as_slice.ensures
    c.channel_capacities.ensures.comes)
