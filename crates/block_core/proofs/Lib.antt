pub mod Standing
pub mod Unique
mod Passing
pub mod Rows
mod After
mod PlainFlows
mod RepeatFlows
mod SpaceFlows
mod BeneathFlows
pub mod InOrder
mod Either
mod MergeFlows
mod FillFlows
pub mod All
pub mod Arity
pub mod Readings
pub mod MergeReadings
pub mod Given
pub mod FillReadings
pub mod FillGiven
pub mod Laid
mod Works
mod WorkedCopies
mod WorkedMerges
mod WorkedArithmetic
mod WorkedReducers
mod WorkedShapes
mod WorkedWriters
pub mod WorkedFits
pub mod Sums
pub mod Pouring
