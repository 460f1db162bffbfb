use Rattle.std.proofs.Common.{arith, ap, length, length-drop, drop, ◌≡◌, ◌-◌}
use Rattle.std.proofs.lemmas.List.{length-take}
use Rattle.sam_io.proofs.PieceLemmas.{grown-take}
use Rattle.sam_io.proofs.whole.write_whole.Goals as goal

pub pieces-preserved : goal.pieces-preserved
pieces-preserved g c =
    let within = c.pieces-test.true in (
      omega (arith, c.in-Ok.ensures.bound, length-take (length c.args.bytes.now - c.pieces.done) (drop c.pieces.done c.args.bytes.now), length-drop c.pieces.done c.args.bytes.now),
      grown-take _ _ _ _ _ _ c.pieces.invariant.1 c.in-Ok.ensures.appended,
      omega (arith, c.pieces.invariant.2, c.in-Ok.ensures.cause.later),
      λ e. let none : length c.args.bytes.now ≡ 0 = ap length e in absurd (omega (arith, none, within)),
    )
