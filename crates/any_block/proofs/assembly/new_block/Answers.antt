use Rattle.std.proofs.Common.{refl, sym}
use Rattle.std.proofs.lemmas.List.{get_or_read_under}
use Rattle.graph.specs.Meaning.{no_storage}
use Rattle.any_block.proofs.assembly.new_block.Goals.{in-Root, in-Scan, in-Repeat, in-Cast, in-Drain, in-Intersect, in-Union, in-Array, in-Mul, in-Add, in-Sub, in-Const, in-SumScalar, in-SumVector, in-SumMatrix, in-DropValue, in-DropFiber, in-Fill, in-WriteLevel+in_ok-new-in-WriteLevel, in-WriteValue}
use Rattle.any_block.proofs.assembly.new_block.Goals as goal

pub returns-clause-starts : goal.returns-clause-starts
returns-clause-starts c = elim c.match-kind.branch [
  | in-Root w ↦ rw (w.in-Root.is, w.result-is) w.new.ensures.starts
  | in-Scan w ↦ rw (w.in-Scan.is, w.result-is, sym (get_or_read_under _ _ _ _ no_storage w.index-storages-tensor.is (rw w.in-Scan.is at c.requires.in_range).0 refl)) w.new-in-Scan.ensures.starts
  | in-Repeat w ↦ rw (w.in-Repeat.is, w.result-is) w.new-in-Repeat.ensures.starts
  | in-Cast w ↦ rw (w.in-Cast.is, w.result-is) w.new-in-Cast.ensures.starts
  | in-Drain w ↦ rw (w.in-Drain.is, w.result-is) w.new-in-Drain.ensures.starts
  | in-Intersect w ↦ rw (w.in-Intersect.is, w.result-is) w.new-in-Intersect.ensures.starts
  | in-Union w ↦ rw (w.in-Union.is, w.result-is) w.new-in-Union.ensures.starts
  | in-Array w ↦ rw (w.in-Array.is, w.result-is, sym (get_or_read_under _ _ _ _ no_storage w.index-storages-tensor-in-Array.is (rw w.in-Array.is at c.requires.in_range) refl)) w.new-in-Array.ensures.starts
  | in-Mul w ↦ rw (w.in-Mul.is, w.result-is) w.new-in-Mul.ensures.starts
  | in-Add w ↦ rw (w.in-Add.is, w.result-is) w.new-in-Add.ensures.starts
  | in-Sub w ↦ rw (w.in-Sub.is, w.result-is) w.new-in-Sub.ensures.starts
  | in-Const w ↦ rw (w.in-Const.is, w.result-is) w.new-in-Const.ensures.starts
  | in-SumScalar w ↦ rw (w.in-SumScalar.is, w.result-is) w.new-in-SumScalar.ensures.starts
  | in-SumVector w ↦ rw (w.in-SumVector.is, w.result-is) w.new-in-SumVector.ensures.starts
  | in-SumMatrix w ↦ rw (w.in-SumMatrix.is, w.result-is) w.new-in-SumMatrix.ensures.starts
  | in-DropValue w ↦ rw (w.in-DropValue.is, w.result-is) w.new-in-DropValue.ensures.starts
  | in-DropFiber w ↦ rw (w.in-DropFiber.is, w.result-is) w.new-in-DropFiber.ensures.starts
  | in-Fill w ↦ rw (w.in-Fill.is, w.result-is) w.new-in-Fill.ensures.starts
  | in-WriteLevel+in_ok-new-in-WriteLevel w ↦ rw (w.in-WriteLevel.is, w.result-is) w.in_ok-new-in-WriteLevel.ensures.starts
  | in-WriteValue w ↦ rw (w.in-WriteValue.is, w.result-is) w.new-in-WriteValue.ensures.starts
]
