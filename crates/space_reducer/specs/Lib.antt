pub mod MatrixSteps
pub mod VectorSteps
