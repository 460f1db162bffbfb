pub mod UnboundedRuns
pub mod ProgramMachines
pub mod MadeAnew
