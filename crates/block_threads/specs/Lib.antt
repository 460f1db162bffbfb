pub mod Ports
pub mod Working
pub mod Tasks
pub mod Wires
