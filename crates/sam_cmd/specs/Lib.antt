pub mod Answers
pub mod Chosen
pub mod Commands
pub mod Laws
pub mod Onwards
pub mod Steps
