use Rattle.std.proofs.Common.{arith, ◌<◌, subst}
use Rattle.stepper.specs.NetOf.{net_of}
use Rattle.stepper.proofs.Wires.{wired}
use Rattle.sam_sizing.specs.Trials.{EndsAs}
use Rattle.sam_sizing.proofs.Tried.{stalls-from-one, next-least}
use Rattle.sam_sizing.proofs.least.least_capacity.Goals as goal

pub returns-in-Finished : goal.returns-in-Finished
returns-in-Finished g c = λ storages makes.
    let net = net_of storages c.args.g.now in
    let bounds = c.in_ok-bounds-in-Finished.bounds in
    let narrow = c.in_ok-bounds-in-Finished.ensures in
    let enough = subst (EndsAs net c.doubling.high) c.in-Finished.is (c.in_ok-trial.ensures storages makes) in
    next-least net c.args.top bounds (wired storages c.args.g.now c.requires.formed makes.consistent)
    (omega (arith, narrow.most, c.doubling.invariant.most)) narrow.next
    (narrow.within storages makes (record { low = c.doubling.invariant.stalls storages makes; high = enough }))

pub doubling-preserved : goal.doubling-preserved
doubling-preserved g c =
    let low = c.doubling.invariant.ordered in
    let most = c.doubling.invariant.most in
    let twice = c.doubled-high.ensures in
    let below : c.doubling.high < c.args.top = omega (arith, most, c.if-high-top.false) in
    record {
      ordered = omega (arith, low, below, twice);
      most = omega (arith, twice);
      stalls = λ storages makes.
          let net = net_of storages c.args.g.now in
          stalls-from-one net c.doubling.high c.in-Stalled.waiting (omega (arith, low))
          (subst (EndsAs net c.doubling.high) c.in-Stalled.is (c.in_ok-trial.ensures storages makes));
    }
