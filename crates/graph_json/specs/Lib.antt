pub mod Tables
pub mod Spelled
