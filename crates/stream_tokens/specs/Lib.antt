pub mod Nest
pub mod Flat
pub mod Shapes
pub mod Body
pub mod Texts
