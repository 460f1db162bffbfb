use Rattle.std.proofs.Common.{◌≤◌, ◌+◌, arith}
use Rattle.sam_model.specs.Listing.{place_above}
use Rattle.tns_io.proofs.PathLemmas.{fiber-on, fiber-there}
use Rattle.tns_io.proofs.paths.fiber_of.Goals as goal

pub loop-fiber-preserved : goal.loop-fiber-preserved
loop-fiber-preserved c =
    fiber-on c.args.ends.now c.loop-fiber.fiber c.args.place c.loop-fiber.invariant (omega (arith, c.requires.there, c.loop-fiber.invariant)) c.loop-fiber-test.true

pub loop-fiber-smaller : goal.loop-fiber-smaller
loop-fiber-smaller c =
    let on : c.loop-fiber.fiber + 1 ≤ place_above c.args.ends.now c.args.place =
    fiber-on c.args.ends.now c.loop-fiber.fiber c.args.place c.loop-fiber.invariant (omega (arith, c.requires.there, c.loop-fiber.invariant)) c.loop-fiber-test.true in
    omega arith

pub returns : goal.returns
returns c = fiber-there c.args.ends.now c.loop-fiber.fiber c.args.place c.loop-fiber.invariant c.loop-fiber-test.false
