pub mod Capacities
pub mod Laws
pub mod Results
pub mod Runs
pub mod Setups
pub mod Sizes
