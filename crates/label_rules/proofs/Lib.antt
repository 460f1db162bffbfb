mod Worked
pub mod laws
pub mod term
pub mod rules
pub mod shared
