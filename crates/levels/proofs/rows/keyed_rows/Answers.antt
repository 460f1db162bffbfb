-- The rows are those of the keys.
use Rattle.std.proofs.Common.{◌≡◌, take, List, arith, ap, ◌∙◌}
use mathlib.Core.List.{map}
use Rattle.std.proofs.lemmas.List.{take_all}
use Rattle.levels.specs.declared.keys.Key.{Key}
use Rattle.levels.specs.Keys.{key_entry}
use Rattle.levels.proofs.rows.keyed_rows.Goals as goal

pub returns : goal.returns
returns c =
    let all : take c.loop-key.key-index c.args.keys.now ≡ c.args.keys.now = take_all c.loop-key.key-index c.args.keys.now (omega arith) in
    c.loop-key.invariant ∙ ap (λ (ks : List Key). map (key_entry c.args.t.now) ks) all
