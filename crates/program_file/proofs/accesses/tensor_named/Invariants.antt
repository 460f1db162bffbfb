use Rattle.std.proofs.Common.{◌≡◌, drop}
use Rattle.program_file.specs.Accesses.{tensor_named}
use Rattle.program_file.proofs.accesses.tensor_named.Given as goal

abbrev pub invariant-loop-tensor : goal.invariant-loop-tensor
invariant-loop-tensor l = tensor_named l.name (drop l.tensor-index l.tensors) ≡ tensor_named l.name l.tensors
