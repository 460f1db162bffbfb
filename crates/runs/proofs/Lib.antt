pub mod FormedTensors
pub mod CapacityLemmas
pub mod OneRun
pub mod RunLaws
pub mod SizeLaws
pub mod ResultLemmas
pub mod RunLemmas
mod Worked
pub mod WrittenResults
pub mod SizeLemmas
