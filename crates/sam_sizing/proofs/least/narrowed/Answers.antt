use Rattle.std.proofs.Common.{arith}
use Rattle.stepper.specs.NetOf.{net_of}
use Rattle.sam_sizing.proofs.least.narrowed.Goals as goal

pub halving-preserved : goal.halving-preserved
halving-preserved g c =
    let after = c.after-bounds.ensures in
    record {
      ordered = after.ordered;
      most = omega (arith, after.most, c.halving.invariant.most);
      within = λ storages makes lies.
          after.within (net_of storages c.args.g.now) (c.halving.invariant.within storages makes lies)
          (c.in_ok-ending.ensures storages makes);
    }
