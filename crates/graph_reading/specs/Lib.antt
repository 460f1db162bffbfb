pub mod Values
pub mod Kinds
pub mod Graphs
pub mod Answers
pub mod Form
