pub mod RepeatSteps
pub mod CastSteps
pub mod DrainSteps
