pub mod Ranges
pub mod FirstFailing
pub mod EachPlan
pub mod Ports
pub mod Kept
pub mod WritersFault
pub mod Positions
pub mod SameLabels
pub mod WritersTake
pub mod Suffices
pub mod LowerMeets
pub mod VerdictLaws
pub mod WholeVerdicts
pub mod LabelsFault
pub mod Merging
mod Worked
mod WorkedCopy
