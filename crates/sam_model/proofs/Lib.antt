mod AcceptedRows
mod Rows
mod Worked
mod WorkedExpressions
mod WorkedListing
mod WorkedPattern
mod WorkedScopes
pub mod AcceptedLemmas
pub mod AcceptedPrograms
pub mod EqualTerms
pub mod Lists
pub mod Moduli
pub mod Orders
pub mod Stored
pub mod Tuples
