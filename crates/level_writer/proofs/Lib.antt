pub mod WriterRuns
pub mod LevelRuns
pub mod Worked
