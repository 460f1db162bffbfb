pub mod Makers
pub mod Least
pub mod Trials
