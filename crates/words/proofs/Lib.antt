pub mod LineLemmas
pub mod PairLemmas
pub mod RepeatLemmas
mod Worked
