pub mod Programs
pub mod Tensors
