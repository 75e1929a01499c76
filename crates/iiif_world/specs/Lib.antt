pub mod Code
pub mod Settling
pub mod Entering
pub mod Stepping
pub mod Starting
pub mod Faults
pub mod Loads
