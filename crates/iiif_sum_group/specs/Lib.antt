pub mod Values
pub mod Views
pub mod Below
pub mod Outcomes
pub mod Calls
pub mod Code
pub mod Asking
pub mod Levels
