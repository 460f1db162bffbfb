pub mod TokenLemmas
pub mod OpenForms
pub mod ReachedForms
pub mod Found
pub mod Again
pub mod First
pub mod Worked
