pub mod OneInput
pub mod TensorLemmas
pub mod ProgramNames
