pub mod Leading
pub mod Faults
pub mod Searching
pub mod Topping
