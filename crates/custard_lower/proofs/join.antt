pub mod Joining
pub mod JoinedTerms
pub mod JoinSound
pub mod Extending
pub mod OnlyTerm
pub mod PlainServes
pub mod AllTerms
pub mod SmallDraft
