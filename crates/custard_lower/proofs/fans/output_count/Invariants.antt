use Rattle.std.proofs.Common.{◌≡◌, take}
use Rattle.custard_lower.specs.Drafts.{outputs_of}
use Rattle.custard_lower.proofs.fans.output_count.Given as goal

abbrev pub invariant-loop-made : goal.invariant-loop-made
invariant-loop-made l = l.outputs ≡ outputs_of (take l.made-index l.fn.made)
