pub mod Wishes
pub mod Wires
pub mod Moving
pub mod Taking
pub mod Stepping
pub mod Putting
pub mod Turns
pub mod Stalling
pub mod Laying
pub mod GraphLaws
mod Worked
pub mod Bursting
pub mod AllMoves
pub mod Rounds
