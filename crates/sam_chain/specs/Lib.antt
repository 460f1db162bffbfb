pub mod Fitting
pub mod Running
pub mod RunningCode
pub mod Laws
