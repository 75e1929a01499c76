pub mod Code
pub mod Faults
pub mod Names
pub mod Owner
