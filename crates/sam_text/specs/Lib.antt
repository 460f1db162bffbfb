pub mod Bytes
pub mod Lines
pub mod Words
pub mod Counted
pub mod Remaining
pub mod Numbers
pub mod Names
