pub mod WriterSteps
pub mod Kept
