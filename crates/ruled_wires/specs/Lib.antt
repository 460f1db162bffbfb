pub mod Rule
pub mod Ends
pub mod Passes
pub mod Laws
