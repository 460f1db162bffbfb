pub mod Counting
pub mod Meaning
pub mod Laws
pub mod Plain
