pub mod ScalarSteps
