pub mod Sharing
pub mod Fusing
pub mod FusedRules
pub mod Fused
pub mod Laws
