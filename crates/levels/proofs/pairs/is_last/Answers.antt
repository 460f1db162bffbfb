-- The last item decides.
use Rattle.std.proofs.Common.{◌≡◌, ◌-◌, Some, length, ◌∙◌, sym}
use Rattle.std.specs.Prelude.{slice_get}
use Rattle.levels.proofs.Growth.{ends_with-some}
use Rattle.levels.proofs.pairs.is_last.Goals as goal

pub returns-in-Some : goal.returns-in-Some
returns-in-Some c =
    let there : slice_get c.args.pairs.now (length c.args.pairs.now - 1) ≡ Some c.in-Some.last.now = sym c.in-Some.ensures.value in
    let ends = ends_with-some c.args.pairs.now c.args.pair c.in-Some.last.now there in
    c.eq.ensures ∙ sym ends
