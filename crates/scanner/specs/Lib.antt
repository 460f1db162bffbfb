pub mod Outputs
pub mod ScanSteps
