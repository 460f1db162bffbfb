pub mod Counting
pub mod TermSlices
mod FusedPlans
pub mod PlansFit
mod FusedTerms
mod FusedLabels
mod FusedUnions
mod FusedSound
mod FusedAllows
mod SharedWalk
mod TermsWalk
mod ResultWalk
mod FusedServes
mod SmallFused
pub mod FusedGraph
mod WorkedFusing
