pub mod PlaceLemmas
pub mod LineWords
pub mod DecimalLemmas
pub mod Worked
