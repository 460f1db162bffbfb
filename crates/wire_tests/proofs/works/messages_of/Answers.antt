use Rattle.std.proofs.Common.{◌∙◌, ap₂, [], ◌∷◌}
use Rattle.levels.specs.Reads.{children_at}
use Rattle.ruled_wires.specs.Ends.{End}
use Rattle.wire_tests.proofs.Scanning.{stands-wired}
use Rattle.wire_tests.proofs.works.messages_of.Goals as goal

pub work-worked-requires-clause-wired : goal.work-worked-requires-clause-wired
work-worked-requires-clause-wired g c =
    let outs =
    c.in_ok-outs.ensures ∙ ap₂ (λ (a b : End). a ∷ b ∷ []) c.in_ok-coordinates.ensures.fresh.0 c.in_ok-references.ensures.fresh.0 in
    stands-wired _ g.W.Streams.streams (children_at c.args.storage.now 1) c.new.result c.in_ok-ins.ins.items c.in_ok-outs.outs.items
    c.requires.streams c.requires.root c.new.ensures.same_kind c.new.ensures.starts c.in_ok-ins.ensures outs
