use Rattle.std.proofs.Common.{◌≡◌, ◌+◌, ◌-◌, length}
use Rattle.std.specs.List.{range_with_len}
use Rattle.stream_model.specs.Terms.{mask_of}
use Rattle.stream_model.specs.Fused.{leading_marks, shared_levels}
use Rattle.custard_fuse.proofs.fusing.shared_levels.Given as goal

abbrev pub invariant-loop-v : goal.invariant-loop-v
invariant-loop-v l = shared_levels l.p ≡ l.v + leading_marks (mask_of (range_with_len l.v (length l.p.var_sizes - l.v)) l.p.left)
