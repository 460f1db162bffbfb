pub mod StoringLemmas
pub mod SummaryLemmas
mod Worked
