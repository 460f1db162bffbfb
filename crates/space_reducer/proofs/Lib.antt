mod Added
mod Changed
mod Folds
mod MatrixFold
mod MatrixRuns
mod Ordered
mod VectorRuns
