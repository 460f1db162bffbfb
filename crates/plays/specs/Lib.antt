pub mod Net
pub mod Laws
pub mod Held
pub mod Told
pub mod Rest
