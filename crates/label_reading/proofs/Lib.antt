pub mod Arguments
pub mod WordLemmas
pub mod LabelLaw
mod Worked
