pub mod Rows
pub mod Tokens
pub mod Heads
pub mod MergeRuns
pub mod MergeStands
