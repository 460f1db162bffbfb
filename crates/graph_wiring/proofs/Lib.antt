mod Reaching
mod Listing
mod Searching
mod Topping
mod Components
mod Worked
