mod Places
mod ScanRuns
mod Going
pub mod InRange
