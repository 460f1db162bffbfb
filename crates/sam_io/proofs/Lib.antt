mod FoundLemmas
mod PieceLemmas
mod Worked
