use Rattle.std.proofs.Common.{◌≡◌, take}
use Rattle.program_file.proofs.copies.copied_tensors.Given as goal

abbrev pub invariant-loop-tensor : goal.invariant-loop-tensor
invariant-loop-tensor l = l.copies ≡ take l.tensor-index l.tensors
