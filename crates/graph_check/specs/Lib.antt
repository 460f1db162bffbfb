pub mod Writers
pub mod FirstWriters
pub mod Known
pub mod Faults
pub mod Laws
pub mod Verdicts
