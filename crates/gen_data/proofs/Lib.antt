pub mod RowLemmas
pub mod FitLemmas
mod Worked
