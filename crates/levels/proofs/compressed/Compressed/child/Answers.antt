-- The place of a child is within the coordinates.
use Rattle.std.specs.Prelude.{slice_index}
use Rattle.std.proofs.Common.{◌≡◌, ◌+◌, arith}
use Rattle.std.proofs.lemmas.Grind.{common_steps}
use Rattle.levels.proofs.ReadLemmas.{fibers-in-range, fibers-child, fibers-within}
use Rattle.levels.proofs.compressed.Compressed.child.Goals as goal

pub index-requires : goal.index-requires
index-requires c =
    let inside = fibers-in-range c.args.self.now.segments.items c.args.self.now.coordinates.items c.args.r c.requires.parent in
    grind (arith, common_steps, inside)

pub overflow_add-place : goal.overflow_add-place
overflow_add-place c =
    let inside = fibers-in-range c.args.self.now.segments.items c.args.self.now.coordinates.items c.args.r c.requires.parent in
    let within = fibers-within c.args.self.now.segments.items c.args.self.now.coordinates.items c.args.r c.args.n c.args.self.now.within c.requires.parent c.requires.child in
    grind (arith, common_steps, within, inside)

pub index-requires-2 : goal.index-requires-2
index-requires-2 c =
    let inside = fibers-in-range c.args.self.now.segments.items c.args.self.now.coordinates.items c.args.r c.requires.parent in
    let within = fibers-within c.args.self.now.segments.items c.args.self.now.coordinates.items c.args.r c.args.n c.args.self.now.within c.requires.parent c.requires.child in
    grind (arith, common_steps, within, inside)

pub returns : goal.returns
returns c =
    let inside = fibers-in-range c.args.self.now.segments.items c.args.self.now.coordinates.items c.args.r c.requires.parent in
    let child = fibers-child c.args.self.now.segments.items c.args.self.now.coordinates.items c.args.r c.args.n c.requires.parent c.requires.child in
    let from : slice_index c.args.self.now.segments.items c.args.r ≡ c.from.result = grind (arith, common_steps, inside) in
    let within = fibers-within c.args.self.now.segments.items c.args.self.now.coordinates.items c.args.r c.args.n c.args.self.now.within c.requires.parent c.requires.child in
    let at : slice_index c.args.self.now.coordinates.items (c.from.result + c.args.n) ≡ c.from-2.result = grind (arith, common_steps, within) in
    cc (child, from, at)
