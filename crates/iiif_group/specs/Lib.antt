pub mod Beginning
pub mod Code
pub mod Ending
pub mod Faults
pub mod Leads
pub mod Owners
