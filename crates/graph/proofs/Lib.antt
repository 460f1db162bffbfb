pub mod Ranks
pub mod Streams
mod Formed
pub mod ByTest
pub mod Carried
pub mod Arity
mod Placing
mod Placed
mod Vectors
mod Worked
mod WorkedWiring
mod WorkedConsistent
mod WorkedPlacing
