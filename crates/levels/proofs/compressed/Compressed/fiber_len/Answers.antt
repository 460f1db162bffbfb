-- The segments of a parent and of the next one are there, and they ascend.
use Rattle.std.proofs.Common.{arith}
use Rattle.std.proofs.lemmas.Grind.{common_steps}
use Rattle.levels.proofs.ReadLemmas.{fibers-in-range, fibers-fiber_len}
use Rattle.levels.proofs.compressed.Compressed.fiber_len.Goals as goal

pub overflow_add-r : goal.overflow_add-r
overflow_add-r c =
    let inside = fibers-in-range c.args.self.now.segments.items c.args.self.now.coordinates.items c.args.r c.requires in
    grind (arith, common_steps, inside)

pub index-requires : goal.index-requires
index-requires c =
    let inside = fibers-in-range c.args.self.now.segments.items c.args.self.now.coordinates.items c.args.r c.requires in
    grind (arith, common_steps, inside)

pub index-requires-2 : goal.index-requires-2
index-requires-2 c =
    let inside = fibers-in-range c.args.self.now.segments.items c.args.self.now.coordinates.items c.args.r c.requires in
    grind (arith, common_steps, inside)

pub overflow_sub-index : goal.overflow_sub-index
overflow_sub-index c =
    let inside = fibers-in-range c.args.self.now.segments.items c.args.self.now.coordinates.items c.args.r c.requires in
    let rising = c.args.self.now.rising c.args.r inside in
    grind (arith, common_steps, rising, inside)

pub returns : goal.returns
returns c =
    let long = fibers-fiber_len c.args.self.now.segments.items c.args.self.now.coordinates.items c.args.r c.requires in
    let inside = fibers-in-range c.args.self.now.segments.items c.args.self.now.coordinates.items c.args.r c.requires in
    grind (arith, common_steps, long, inside)
