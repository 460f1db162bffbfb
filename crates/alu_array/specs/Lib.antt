pub mod Operations
pub mod AluSteps
pub mod ChangeSteps
pub mod RootSteps
