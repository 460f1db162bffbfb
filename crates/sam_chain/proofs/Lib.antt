pub mod FitLemmas
mod EntryLemmas
mod RunLemmas
mod LastLemmas
mod Worked
