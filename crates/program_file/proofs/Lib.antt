mod Worked
pub mod PartLemmas
pub mod DeclaredLemmas
pub mod NameLemmas
pub mod BoundLemmas
pub mod SumLemmas
pub mod StatementLemmas
pub mod SumFits
pub mod FitLemmas
pub mod FileLemmas
pub mod NameSets
pub mod CompleteBinds
pub mod CompleteChecks
pub mod CompleteLemmas
pub mod GroupLemmas
pub mod StepLemmas
mod WorkedChains
