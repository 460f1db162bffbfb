pub mod DropValueSteps
pub mod DropFiberSteps
pub mod FillSteps
