use Rattle.any_block.proofs.blocks.AnyBlockBlockStep.did_put.Goals as goal

pub did_put-requires : goal.did_put-requires
did_put-requires c = rw c.in-Root.is at c.requires

pub did_put-requires-in-Scan : goal.did_put-requires-in-Scan
did_put-requires-in-Scan c = rw c.in-Scan.is at c.requires

pub did_put-requires-in-Repeat : goal.did_put-requires-in-Repeat
did_put-requires-in-Repeat c = rw c.in-Repeat.is at c.requires

pub did_put-requires-in-Cast : goal.did_put-requires-in-Cast
did_put-requires-in-Cast c = rw c.in-Cast.is at c.requires

pub did_put-requires-in-Intersect : goal.did_put-requires-in-Intersect
did_put-requires-in-Intersect c = rw c.in-Intersect.is at c.requires

pub did_put-requires-in-Union : goal.did_put-requires-in-Union
did_put-requires-in-Union c = rw c.in-Union.is at c.requires

pub did_put-requires-in-Array : goal.did_put-requires-in-Array
did_put-requires-in-Array c = rw c.in-Array.is at c.requires

pub did_put-requires-in-Alu : goal.did_put-requires-in-Alu
did_put-requires-in-Alu c = rw c.in-Alu.is at c.requires

pub did_put-requires-in-Const : goal.did_put-requires-in-Const
did_put-requires-in-Const c = rw c.in-Const.is at c.requires

pub did_put-requires-in-SumScalar : goal.did_put-requires-in-SumScalar
did_put-requires-in-SumScalar c = rw c.in-SumScalar.is at c.requires

pub did_put-requires-in-SumVector : goal.did_put-requires-in-SumVector
did_put-requires-in-SumVector c = rw c.in-SumVector.is at c.requires

pub did_put-requires-in-SumMatrix : goal.did_put-requires-in-SumMatrix
did_put-requires-in-SumMatrix c = rw c.in-SumMatrix.is at c.requires

pub did_put-requires-in-DropValue : goal.did_put-requires-in-DropValue
did_put-requires-in-DropValue c = rw c.in-DropValue.is at c.requires

pub did_put-requires-in-DropFiber : goal.did_put-requires-in-DropFiber
did_put-requires-in-DropFiber c = rw c.in-DropFiber.is at c.requires

pub did_put-requires-in-Fill : goal.did_put-requires-in-Fill
did_put-requires-in-Fill c = rw c.in-Fill.is at c.requires

pub returns-in-Root-clause-moved : goal.returns-in-Root-clause-moved
returns-in-Root-clause-moved c = rw c.in-Root.is c.did_put.ensures.moved

pub returns-in-Scan-clause-moved : goal.returns-in-Scan-clause-moved
returns-in-Scan-clause-moved c = rw c.in-Scan.is c.did_put-in-Scan.ensures.moved

pub returns-in-Repeat-clause-moved : goal.returns-in-Repeat-clause-moved
returns-in-Repeat-clause-moved c = rw c.in-Repeat.is c.did_put-in-Repeat.ensures.moved

pub returns-in-Cast-clause-moved : goal.returns-in-Cast-clause-moved
returns-in-Cast-clause-moved c = rw c.in-Cast.is c.did_put-in-Cast.ensures.moved

pub returns-in-Drain-clause-moved : goal.returns-in-Drain-clause-moved
returns-in-Drain-clause-moved c = rw c.in-Drain.is c.did_put-in-Drain.ensures.moved

pub returns-in-Intersect-clause-moved : goal.returns-in-Intersect-clause-moved
returns-in-Intersect-clause-moved c = rw c.in-Intersect.is c.did_put-in-Intersect.ensures.moved

pub returns-in-Union-clause-moved : goal.returns-in-Union-clause-moved
returns-in-Union-clause-moved c = rw c.in-Union.is c.did_put-in-Union.ensures.moved

pub returns-in-Array-clause-moved : goal.returns-in-Array-clause-moved
returns-in-Array-clause-moved c = rw c.in-Array.is c.did_put-in-Array.ensures.moved

pub returns-in-Alu-clause-moved : goal.returns-in-Alu-clause-moved
returns-in-Alu-clause-moved c = rw c.in-Alu.is c.did_put-in-Alu.ensures.moved

pub returns-in-Const-clause-moved : goal.returns-in-Const-clause-moved
returns-in-Const-clause-moved c = rw c.in-Const.is c.did_put-in-Const.ensures.moved

pub returns-in-SumScalar-clause-moved : goal.returns-in-SumScalar-clause-moved
returns-in-SumScalar-clause-moved c = rw c.in-SumScalar.is c.did_put-in-SumScalar.ensures.moved

pub returns-in-SumVector-clause-moved : goal.returns-in-SumVector-clause-moved
returns-in-SumVector-clause-moved c = rw c.in-SumVector.is c.did_put-in-SumVector.ensures.moved

pub returns-in-SumMatrix-clause-moved : goal.returns-in-SumMatrix-clause-moved
returns-in-SumMatrix-clause-moved c = rw c.in-SumMatrix.is c.did_put-in-SumMatrix.ensures.moved

pub returns-in-DropValue-clause-moved : goal.returns-in-DropValue-clause-moved
returns-in-DropValue-clause-moved c = rw c.in-DropValue.is c.did_put-in-DropValue.ensures.moved

pub returns-in-DropFiber-clause-moved : goal.returns-in-DropFiber-clause-moved
returns-in-DropFiber-clause-moved c = rw c.in-DropFiber.is c.did_put-in-DropFiber.ensures.moved

pub returns-in-Fill-clause-moved : goal.returns-in-Fill-clause-moved
returns-in-Fill-clause-moved c = rw c.in-Fill.is c.did_put-in-Fill.ensures.moved

pub returns-in-WriteLevel-clause-moved : goal.returns-in-WriteLevel-clause-moved
returns-in-WriteLevel-clause-moved c = rw c.in-WriteLevel.is c.did_put-in-WriteLevel.ensures.moved

pub returns-in-WriteValue-clause-moved : goal.returns-in-WriteValue-clause-moved
returns-in-WriteValue-clause-moved c = rw c.in-WriteValue.is c.did_put-in-WriteValue.ensures.moved
