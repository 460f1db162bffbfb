use Rattle.std.proofs.Common.{◌∙◌}
use Rattle.any_block.proofs.gathering.kept_level.Goals as goal

pub returns-in_ok-copy_of-in-WriteLevel-2-clause-segs : goal.returns-in_ok-copy_of-in-WriteLevel-2-clause-segs
returns-in_ok-copy_of-in-WriteLevel-2-clause-segs c = λ level s k h.
    c.in_ok-copy_of-in-WriteLevel.ensures ∙ c.segs.ensures.written level s (rw c.in-WriteLevel.is at k) (rw c.in-WriteLevel.is at h)

pub returns-in_ok-copy_of-in-WriteLevel-2-clause-crds : goal.returns-in_ok-copy_of-in-WriteLevel-2-clause-crds
returns-in_ok-copy_of-in-WriteLevel-2-clause-crds c = λ level s k h.
    c.in_ok-copy_of-in-WriteLevel-2.ensures ∙ c.crds.ensures.written level s (rw c.in-WriteLevel.is at k) (rw c.in-WriteLevel.is at h)
