pub mod LineLemmas
pub mod TellingLemmas
mod Worked
