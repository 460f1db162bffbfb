mod Made
mod Writers
mod Worked
