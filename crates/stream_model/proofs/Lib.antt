mod Spaced
mod Rows
mod Worked
mod WorkedFused
pub mod Grown
pub mod Streams
pub mod Levels
pub mod Products
pub mod Masks
pub mod Prefixes
pub mod Sums
pub mod TermLaw
pub mod Reduced
pub mod Pruned
pub mod Places
pub mod Denoted
pub mod Bridges
pub mod Scans
pub mod Flat
pub mod Sides
pub mod Results
pub mod Numbers
pub mod Fills
pub mod Depths
