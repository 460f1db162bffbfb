pub mod ClosedLemmas
pub mod RowLemmas
pub mod FrontLemmas
pub mod SpreadLemmas
pub mod MergeLemmas
pub mod ClosingLemmas
pub mod CoordinateLemmas
pub mod FoundEntries
pub mod ValueLemmas
pub mod FieldLemmas
pub mod EntryLemmas
pub mod PathLemmas
pub mod PlaceLemmas
pub mod PlainLemmas
pub mod WalkLemmas
pub mod LineLemmas
pub mod ListingLemmas
mod Rising
mod Worked
mod WorkedResults
mod WorkedCoordinates
mod WorkedClosing
