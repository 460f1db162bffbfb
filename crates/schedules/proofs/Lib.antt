pub mod TurnLemmas
mod Worked
