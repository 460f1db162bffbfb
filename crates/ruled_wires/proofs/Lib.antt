pub mod Views
pub mod Held
pub mod Keeping
pub mod Done
pub mod Sends
pub mod Takes
pub mod Rounds
pub mod Worked
