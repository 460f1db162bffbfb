pub mod ReadLemmas
pub mod LinedLemmas
pub mod RoundLemmas
pub mod DataLemmas
pub mod GraphRound
mod Worked
