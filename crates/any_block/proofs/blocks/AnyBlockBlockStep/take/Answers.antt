use Rattle.any_block.proofs.blocks.AnyBlockBlockStep.take.Goals as goal

pub take-requires-in-Scan : goal.take-requires-in-Scan
take-requires-in-Scan c = rw c.in-Scan.is at c.requires

pub take-requires-in-Repeat : goal.take-requires-in-Repeat
take-requires-in-Repeat c = rw c.in-Repeat.is at c.requires

pub take-requires-in-Cast : goal.take-requires-in-Cast
take-requires-in-Cast c = rw c.in-Cast.is at c.requires

pub take-requires-in-Drain : goal.take-requires-in-Drain
take-requires-in-Drain c = rw c.in-Drain.is at c.requires

pub take-requires-in-Intersect : goal.take-requires-in-Intersect
take-requires-in-Intersect c = rw c.in-Intersect.is at c.requires

pub take-requires-in-Union : goal.take-requires-in-Union
take-requires-in-Union c = rw c.in-Union.is at c.requires

pub take-requires-in-Array : goal.take-requires-in-Array
take-requires-in-Array c = rw c.in-Array.is at c.requires

pub take-requires-in-Alu : goal.take-requires-in-Alu
take-requires-in-Alu c = rw c.in-Alu.is at c.requires

pub take-requires-in-Const : goal.take-requires-in-Const
take-requires-in-Const c = rw c.in-Const.is at c.requires

pub take-requires-in-SumScalar : goal.take-requires-in-SumScalar
take-requires-in-SumScalar c = rw c.in-SumScalar.is at c.requires

pub take-requires-in-SumVector : goal.take-requires-in-SumVector
take-requires-in-SumVector c = rw c.in-SumVector.is at c.requires

pub take-requires-in-SumMatrix : goal.take-requires-in-SumMatrix
take-requires-in-SumMatrix c = rw c.in-SumMatrix.is at c.requires

pub take-requires-in-DropValue : goal.take-requires-in-DropValue
take-requires-in-DropValue c = rw c.in-DropValue.is at c.requires

pub take-requires-in-DropFiber : goal.take-requires-in-DropFiber
take-requires-in-DropFiber c = rw c.in-DropFiber.is at c.requires

pub take-requires-in-Fill : goal.take-requires-in-Fill
take-requires-in-Fill c = rw c.in-Fill.is at c.requires

pub take-requires-in-WriteLevel : goal.take-requires-in-WriteLevel
take-requires-in-WriteLevel c = rw c.in-WriteLevel.is at c.requires

pub take-requires-in-WriteValue : goal.take-requires-in-WriteValue
take-requires-in-WriteValue c = rw c.in-WriteValue.is at c.requires

pub returns-in-Scan-clause-moved : goal.returns-in-Scan-clause-moved
returns-in-Scan-clause-moved c = rw c.in-Scan.is c.take-in-Scan.ensures.moved

pub returns-in-Repeat-clause-moved : goal.returns-in-Repeat-clause-moved
returns-in-Repeat-clause-moved c = rw c.in-Repeat.is c.take-in-Repeat.ensures.moved

pub returns-in-Cast-clause-moved : goal.returns-in-Cast-clause-moved
returns-in-Cast-clause-moved c = rw c.in-Cast.is c.take-in-Cast.ensures.moved

pub returns-in-Drain-clause-moved : goal.returns-in-Drain-clause-moved
returns-in-Drain-clause-moved c = rw c.in-Drain.is c.take-in-Drain.ensures.moved

pub returns-in-Intersect-clause-moved : goal.returns-in-Intersect-clause-moved
returns-in-Intersect-clause-moved c = rw c.in-Intersect.is c.take-in-Intersect.ensures.moved

pub returns-in-Union-clause-moved : goal.returns-in-Union-clause-moved
returns-in-Union-clause-moved c = rw c.in-Union.is c.take-in-Union.ensures.moved

pub returns-in-Array-clause-moved : goal.returns-in-Array-clause-moved
returns-in-Array-clause-moved c = rw c.in-Array.is c.take-in-Array.ensures.moved

pub returns-in-Alu-clause-moved : goal.returns-in-Alu-clause-moved
returns-in-Alu-clause-moved c = rw c.in-Alu.is c.take-in-Alu.ensures.moved

pub returns-in-Const-clause-moved : goal.returns-in-Const-clause-moved
returns-in-Const-clause-moved c = rw c.in-Const.is c.take-in-Const.ensures.moved

pub returns-in-SumScalar-clause-moved : goal.returns-in-SumScalar-clause-moved
returns-in-SumScalar-clause-moved c = rw c.in-SumScalar.is c.take-in-SumScalar.ensures.moved

pub returns-in-SumVector-clause-moved : goal.returns-in-SumVector-clause-moved
returns-in-SumVector-clause-moved c = rw c.in-SumVector.is c.take-in-SumVector.ensures.moved

pub returns-in-SumMatrix-clause-moved : goal.returns-in-SumMatrix-clause-moved
returns-in-SumMatrix-clause-moved c = rw c.in-SumMatrix.is c.take-in-SumMatrix.ensures.moved

pub returns-in-DropValue-clause-moved : goal.returns-in-DropValue-clause-moved
returns-in-DropValue-clause-moved c = rw c.in-DropValue.is c.take-in-DropValue.ensures.moved

pub returns-in-DropFiber-clause-moved : goal.returns-in-DropFiber-clause-moved
returns-in-DropFiber-clause-moved c = rw c.in-DropFiber.is c.take-in-DropFiber.ensures.moved

pub returns-in-Fill-clause-moved : goal.returns-in-Fill-clause-moved
returns-in-Fill-clause-moved c = rw c.in-Fill.is c.take-in-Fill.ensures.moved

pub returns-in-WriteLevel-clause-moved : goal.returns-in-WriteLevel-clause-moved
returns-in-WriteLevel-clause-moved c = rw c.in-WriteLevel.is c.take-in-WriteLevel.ensures.moved

pub returns-in-WriteValue-clause-moved : goal.returns-in-WriteValue-clause-moved
returns-in-WriteValue-clause-moved c = rw c.in-WriteValue.is c.take-in-WriteValue.ensures.moved
