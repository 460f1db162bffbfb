use Rattle.any_block.proofs.blocks.AnyBlockBlockStep.wish.Goals as goal

pub returns-in-Root : goal.returns-in-Root
returns-in-Root c = rw c.in-Root.is c.wish.ensures

pub returns-in-Scan : goal.returns-in-Scan
returns-in-Scan c = rw c.in-Scan.is c.wish-in-Scan.ensures

pub returns-in-Repeat : goal.returns-in-Repeat
returns-in-Repeat c = rw c.in-Repeat.is c.wish-in-Repeat.ensures

pub returns-in-Cast : goal.returns-in-Cast
returns-in-Cast c = rw c.in-Cast.is c.wish-in-Cast.ensures

pub returns-in-Drain : goal.returns-in-Drain
returns-in-Drain c = rw c.in-Drain.is c.wish-in-Drain.ensures

pub returns-in-Intersect : goal.returns-in-Intersect
returns-in-Intersect c = rw c.in-Intersect.is c.wish-in-Intersect.ensures

pub returns-in-Union : goal.returns-in-Union
returns-in-Union c = rw c.in-Union.is c.wish-in-Union.ensures

pub returns-in-Array : goal.returns-in-Array
returns-in-Array c = rw c.in-Array.is c.wish-in-Array.ensures

pub returns-in-Alu : goal.returns-in-Alu
returns-in-Alu c = rw c.in-Alu.is c.wish-in-Alu.ensures

pub returns-in-Const : goal.returns-in-Const
returns-in-Const c = rw c.in-Const.is c.wish-in-Const.ensures

pub returns-in-SumScalar : goal.returns-in-SumScalar
returns-in-SumScalar c = rw c.in-SumScalar.is c.wish-in-SumScalar.ensures

pub returns-in-SumVector : goal.returns-in-SumVector
returns-in-SumVector c = rw c.in-SumVector.is c.wish-in-SumVector.ensures

pub returns-in-SumMatrix : goal.returns-in-SumMatrix
returns-in-SumMatrix c = rw c.in-SumMatrix.is c.wish-in-SumMatrix.ensures

pub returns-in-DropValue : goal.returns-in-DropValue
returns-in-DropValue c = rw c.in-DropValue.is c.wish-in-DropValue.ensures

pub returns-in-DropFiber : goal.returns-in-DropFiber
returns-in-DropFiber c = rw c.in-DropFiber.is c.wish-in-DropFiber.ensures

pub returns-in-Fill : goal.returns-in-Fill
returns-in-Fill c = rw c.in-Fill.is c.wish-in-Fill.ensures

pub returns-in-WriteLevel : goal.returns-in-WriteLevel
returns-in-WriteLevel c = rw c.in-WriteLevel.is c.wish-in-WriteLevel.ensures

pub returns-in-WriteValue : goal.returns-in-WriteValue
returns-in-WriteValue c = rw c.in-WriteValue.is c.wish-in-WriteValue.ensures
