pub mod Moves
pub mod Event
pub mod Waiting
pub mod Sums
pub mod Always
pub mod Passed
pub mod Ends
pub mod Finishing
pub mod Count
mod Worked
pub mod Lists
pub mod Tellings
pub mod Rests
pub mod Relays
pub mod SameRooms
