use Rattle.std.proofs.Common.{take}
use Rattle.std.specs.Prelude.{Ok}
use Rattle.sam_io.specs.Spans.{KeepsFiles}
use Rattle.parts.specs.Parts.{each_part}
use Rattle.inputs.specs.Tensors.{stored_part}
use Rattle.inputs.proofs.tensors.storages.Given as goal

abbrev pub invariant-loop-tensor : goal.invariant-loop-tensor
invariant-loop-tensor g l = record {
  keeps : KeepsFiles g.F.Files l.initial.files l.files;
  done : each_part stored_part (take l.tensor-index l.tensors) (g.F.Files.told l.initial.files) (Ok l.storages);
}
