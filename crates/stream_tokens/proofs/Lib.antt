pub mod Ending
mod Bodies
mod Joined
pub mod Fibers
pub mod Algebra
