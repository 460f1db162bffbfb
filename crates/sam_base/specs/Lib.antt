pub mod Causes
pub mod Each
pub mod Kinds
pub mod Texts
