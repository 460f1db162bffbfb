pub mod draft
pub mod term
pub mod join
pub mod written
mod WorkedLowering
