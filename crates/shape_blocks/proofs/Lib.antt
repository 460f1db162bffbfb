pub mod DropValueRuns
pub mod DropFiberRuns
pub mod FillRows
pub mod FillRuns
pub mod Worked
