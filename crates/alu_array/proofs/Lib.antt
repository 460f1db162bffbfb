mod AluRuns
mod ChangeRuns
mod RootRuns
pub mod InRange
