use Rattle.std.proofs.Common.{◌≡◌, ◌≤◌, length}
use Rattle.sam_model.specs.Tensors.{compressed_until}
use Rattle.tns_io.proofs.closing.last_compressed.Given as goal

abbrev pub invariant-loop-level : goal.invariant-loop-level
invariant-loop-level l = record {
  inside : l.level ≤ length l.declared.formats;
  same : compressed_until l.level l.declared.formats ≡ compressed_until (length l.declared.formats) l.declared.formats;
}

abbrev pub decreases-loop-level : goal.decreases-loop-level
decreases-loop-level l = l.level
