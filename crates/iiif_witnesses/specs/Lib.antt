pub mod Values
pub mod Code
pub mod Served
pub mod Flags
pub mod Flips
