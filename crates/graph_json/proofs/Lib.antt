pub mod DataLemmas
pub mod NameLemmas
pub mod LabelTexts
mod Worked
