pub mod MergeSteps
