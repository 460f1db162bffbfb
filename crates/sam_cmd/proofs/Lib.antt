pub mod ChosenGraphs
pub mod CommandLemmas
pub mod CompleteLemmas
pub mod DenotedLemmas
pub mod FirstLemmas
pub mod OneStep
pub mod PassedLemmas
pub mod PrintedLemmas
pub mod ReportLemmas
pub mod SerialLemmas
pub mod TensorLemmas
mod Worked
