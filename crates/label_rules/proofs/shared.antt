pub mod UnderLaws
pub mod AcrossLaws
pub mod EndLaws
pub mod FusedValues
pub mod UnitedTree
