use Rattle.any_block.proofs.blocks.AnyBlockBlockStep.burst.Goals as goal

pub burst-requires : goal.burst-requires
burst-requires g c = rw c.in-Root.is at c.requires

pub burst-requires-in-Scan : goal.burst-requires-in-Scan
burst-requires-in-Scan g c = rw c.in-Scan.is at c.requires

pub burst-requires-in-Repeat : goal.burst-requires-in-Repeat
burst-requires-in-Repeat g c = rw c.in-Repeat.is at c.requires

pub burst-requires-in-Cast : goal.burst-requires-in-Cast
burst-requires-in-Cast g c = rw c.in-Cast.is at c.requires

pub burst-requires-in-Drain : goal.burst-requires-in-Drain
burst-requires-in-Drain g c = rw c.in-Drain.is at c.requires

pub burst-requires-in-Intersect : goal.burst-requires-in-Intersect
burst-requires-in-Intersect g c = rw c.in-Intersect.is at c.requires

pub burst-requires-in-Union : goal.burst-requires-in-Union
burst-requires-in-Union g c = rw c.in-Union.is at c.requires

pub burst-requires-in-Array : goal.burst-requires-in-Array
burst-requires-in-Array g c = rw c.in-Array.is at c.requires

pub burst-requires-in-Alu : goal.burst-requires-in-Alu
burst-requires-in-Alu g c = rw c.in-Alu.is at c.requires

pub burst-requires-in-Const : goal.burst-requires-in-Const
burst-requires-in-Const g c = rw c.in-Const.is at c.requires

pub burst-requires-in-SumScalar : goal.burst-requires-in-SumScalar
burst-requires-in-SumScalar g c = rw c.in-SumScalar.is at c.requires

pub burst-requires-in-SumVector : goal.burst-requires-in-SumVector
burst-requires-in-SumVector g c = rw c.in-SumVector.is at c.requires

pub burst-requires-in-SumMatrix : goal.burst-requires-in-SumMatrix
burst-requires-in-SumMatrix g c = rw c.in-SumMatrix.is at c.requires

pub burst-requires-in-DropValue : goal.burst-requires-in-DropValue
burst-requires-in-DropValue g c = rw c.in-DropValue.is at c.requires

pub burst-requires-in-DropFiber : goal.burst-requires-in-DropFiber
burst-requires-in-DropFiber g c = rw c.in-DropFiber.is at c.requires

pub burst-requires-in-Fill : goal.burst-requires-in-Fill
burst-requires-in-Fill g c = rw c.in-Fill.is at c.requires

pub burst-requires-in-WriteLevel : goal.burst-requires-in-WriteLevel
burst-requires-in-WriteLevel g c = rw c.in-WriteLevel.is at c.requires

pub burst-requires-in-WriteValue : goal.burst-requires-in-WriteValue
burst-requires-in-WriteValue g c = rw c.in-WriteValue.is at c.requires

pub returns-in-Root-clause-poured : goal.returns-in-Root-clause-poured
returns-in-Root-clause-poured g c = rw c.in-Root.is c.burst.ensures.poured

pub returns-in-Scan-clause-poured : goal.returns-in-Scan-clause-poured
returns-in-Scan-clause-poured g c = rw c.in-Scan.is c.burst-in-Scan.ensures.poured

pub returns-in-Repeat-clause-poured : goal.returns-in-Repeat-clause-poured
returns-in-Repeat-clause-poured g c = rw c.in-Repeat.is c.burst-in-Repeat.ensures.poured

pub returns-in-Cast-clause-poured : goal.returns-in-Cast-clause-poured
returns-in-Cast-clause-poured g c = rw c.in-Cast.is c.burst-in-Cast.ensures.poured

pub returns-in-Drain-clause-poured : goal.returns-in-Drain-clause-poured
returns-in-Drain-clause-poured g c = rw c.in-Drain.is c.burst-in-Drain.ensures.poured

pub returns-in-Intersect-clause-poured : goal.returns-in-Intersect-clause-poured
returns-in-Intersect-clause-poured g c = rw c.in-Intersect.is c.burst-in-Intersect.ensures.poured

pub returns-in-Union-clause-poured : goal.returns-in-Union-clause-poured
returns-in-Union-clause-poured g c = rw c.in-Union.is c.burst-in-Union.ensures.poured

pub returns-in-Array-clause-poured : goal.returns-in-Array-clause-poured
returns-in-Array-clause-poured g c = rw c.in-Array.is c.burst-in-Array.ensures.poured

pub returns-in-Alu-clause-poured : goal.returns-in-Alu-clause-poured
returns-in-Alu-clause-poured g c = rw c.in-Alu.is c.burst-in-Alu.ensures.poured

pub returns-in-Const-clause-poured : goal.returns-in-Const-clause-poured
returns-in-Const-clause-poured g c = rw c.in-Const.is c.burst-in-Const.ensures.poured

pub returns-in-SumScalar-clause-poured : goal.returns-in-SumScalar-clause-poured
returns-in-SumScalar-clause-poured g c = rw c.in-SumScalar.is c.burst-in-SumScalar.ensures.poured

pub returns-in-SumVector-clause-poured : goal.returns-in-SumVector-clause-poured
returns-in-SumVector-clause-poured g c = rw c.in-SumVector.is c.burst-in-SumVector.ensures.poured

pub returns-in-SumMatrix-clause-poured : goal.returns-in-SumMatrix-clause-poured
returns-in-SumMatrix-clause-poured g c = rw c.in-SumMatrix.is c.burst-in-SumMatrix.ensures.poured

pub returns-in-DropValue-clause-poured : goal.returns-in-DropValue-clause-poured
returns-in-DropValue-clause-poured g c = rw c.in-DropValue.is c.burst-in-DropValue.ensures.poured

pub returns-in-DropFiber-clause-poured : goal.returns-in-DropFiber-clause-poured
returns-in-DropFiber-clause-poured g c = rw c.in-DropFiber.is c.burst-in-DropFiber.ensures.poured

pub returns-in-Fill-clause-poured : goal.returns-in-Fill-clause-poured
returns-in-Fill-clause-poured g c = rw c.in-Fill.is c.burst-in-Fill.ensures.poured

pub returns-in-WriteLevel-clause-poured : goal.returns-in-WriteLevel-clause-poured
returns-in-WriteLevel-clause-poured g c = rw c.in-WriteLevel.is c.burst-in-WriteLevel.ensures.poured

pub returns-in-WriteValue-clause-poured : goal.returns-in-WriteValue-clause-poured
returns-in-WriteValue-clause-poured g c = rw c.in-WriteValue.is c.burst-in-WriteValue.ensures.poured

pub returns-in-Root-clause-refused : goal.returns-in-Root-clause-refused
returns-in-Root-clause-refused g c = rw c.in-Root.is c.burst.ensures.refused

pub returns-in-Scan-clause-refused : goal.returns-in-Scan-clause-refused
returns-in-Scan-clause-refused g c = rw c.in-Scan.is c.burst-in-Scan.ensures.refused

pub returns-in-Repeat-clause-refused : goal.returns-in-Repeat-clause-refused
returns-in-Repeat-clause-refused g c = rw c.in-Repeat.is c.burst-in-Repeat.ensures.refused

pub returns-in-Cast-clause-refused : goal.returns-in-Cast-clause-refused
returns-in-Cast-clause-refused g c = rw c.in-Cast.is c.burst-in-Cast.ensures.refused

pub returns-in-Drain-clause-refused : goal.returns-in-Drain-clause-refused
returns-in-Drain-clause-refused g c = rw c.in-Drain.is c.burst-in-Drain.ensures.refused

pub returns-in-Intersect-clause-refused : goal.returns-in-Intersect-clause-refused
returns-in-Intersect-clause-refused g c = rw c.in-Intersect.is c.burst-in-Intersect.ensures.refused

pub returns-in-Union-clause-refused : goal.returns-in-Union-clause-refused
returns-in-Union-clause-refused g c = rw c.in-Union.is c.burst-in-Union.ensures.refused

pub returns-in-Array-clause-refused : goal.returns-in-Array-clause-refused
returns-in-Array-clause-refused g c = rw c.in-Array.is c.burst-in-Array.ensures.refused

pub returns-in-Alu-clause-refused : goal.returns-in-Alu-clause-refused
returns-in-Alu-clause-refused g c = rw c.in-Alu.is c.burst-in-Alu.ensures.refused

pub returns-in-Const-clause-refused : goal.returns-in-Const-clause-refused
returns-in-Const-clause-refused g c = rw c.in-Const.is c.burst-in-Const.ensures.refused

pub returns-in-SumScalar-clause-refused : goal.returns-in-SumScalar-clause-refused
returns-in-SumScalar-clause-refused g c = rw c.in-SumScalar.is c.burst-in-SumScalar.ensures.refused

pub returns-in-SumVector-clause-refused : goal.returns-in-SumVector-clause-refused
returns-in-SumVector-clause-refused g c = rw c.in-SumVector.is c.burst-in-SumVector.ensures.refused

pub returns-in-SumMatrix-clause-refused : goal.returns-in-SumMatrix-clause-refused
returns-in-SumMatrix-clause-refused g c = rw c.in-SumMatrix.is c.burst-in-SumMatrix.ensures.refused

pub returns-in-DropValue-clause-refused : goal.returns-in-DropValue-clause-refused
returns-in-DropValue-clause-refused g c = rw c.in-DropValue.is c.burst-in-DropValue.ensures.refused

pub returns-in-DropFiber-clause-refused : goal.returns-in-DropFiber-clause-refused
returns-in-DropFiber-clause-refused g c = rw c.in-DropFiber.is c.burst-in-DropFiber.ensures.refused

pub returns-in-Fill-clause-refused : goal.returns-in-Fill-clause-refused
returns-in-Fill-clause-refused g c = rw c.in-Fill.is c.burst-in-Fill.ensures.refused

pub returns-in-WriteLevel-clause-refused : goal.returns-in-WriteLevel-clause-refused
returns-in-WriteLevel-clause-refused g c = rw c.in-WriteLevel.is c.burst-in-WriteLevel.ensures.refused

pub returns-in-WriteValue-clause-refused : goal.returns-in-WriteValue-clause-refused
returns-in-WriteValue-clause-refused g c = rw c.in-WriteValue.is c.burst-in-WriteValue.ensures.refused
