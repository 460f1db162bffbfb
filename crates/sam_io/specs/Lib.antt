pub mod Begun
pub mod Found
pub mod Held
pub mod Opening
pub mod Outside
pub mod Spans
