pub mod OwnMade
pub mod Tried
pub mod OneLeast
mod Worked
